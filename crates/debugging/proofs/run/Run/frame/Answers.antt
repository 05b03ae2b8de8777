use Rattle.std.proofs.Common.{◌∙◌, ◌+◌, ◌-◌, ℕ, ap, arith}
use Rattle.machine.specs.Machine.{MachineState}
use Rattle.machine.specs.Watched.{machine_after}
use Rattle.debugging.specs.Position.{with_frame}
use Rattle.debugging.specs.Run.{RunState}
use Rattle.debugging.proofs.Frames.{emptied, is_over, not_over, playing_on, played}
use Rattle.debugging.proofs.run.Run.frame.Goals as goal

pub playing-smaller : goal.playing-smaller
playing-smaller c =
    let below = not_over c.is_over.result c.playing.frame.passed c.is_over.ensures.1 c.playing-test.true in
    omega (arith, below, c.run_on-after.ensures.on below)

pub playing-preserved : goal.playing-preserved
playing-preserved c = record {
  playing = playing_on c.args.buttons c.args.self c.playing.sent.items c.note.new.sent.items _ c.playing.sent.capacity c.run_on-after.result.breaks c.playing.frame c.run_on-after.result.frame
      c.playing.invariant.playing c.playing.invariant.room c.note.ensures.items c.run_on-after.ensures.seen;
  room = c.note.ensures.capacity ∙ c.playing.invariant.room;
  kept = omega (arith, c.note.ensures.within, c.note.ensures.capacity);
  none = c.playing.invariant.none;
  size = c.playing.invariant.size;
}

pub returns : goal.returns
returns c =
    let machine = ap (λ (r : RunState). r.debugger.machine) c.self.view_is in
    played c.args.buttons c.args.self c.playing.sent.items c.playing.frame c.from_parts.result c.with_frame.result c.playing.invariant.playing (is_over c.is_over.result c.playing.frame.passed c.is_over.ensures.0 c.playing-test.false) (omega (arith, c.playing.invariant.kept, c.playing.invariant.room))
    (c.from_parts.ensures ∙ emptied _ _ _ _ _ c.end-machine.ensures c.playing.invariant.size c.playing.invariant.none)
    (c.with_frame.ensures ∙ ap (λ (r : RunState). with_frame c.frame_cycles-cycles.result r.played) c.self.view_is
    ∙ ap (λ (n : ℕ). with_frame n c.args.self.played) (c.frame_cycles-cycles.ensures
    ∙ ap (λ (n : ℕ). 17556 + n - c.overrun-before.result) (c.overrun.ensures.overrun ∙ ap (λ (m : MachineState). m.overrun) c.end-machine.ensures)
    ∙ ap (λ (n : ℕ). 17556 + (machine_after c.playing.frame).overrun - n) (c.overrun-before.ensures.overrun ∙ ap (λ (m : MachineState). m.overrun) (c.into_parts-machine.ensures.machine ∙ machine))))
