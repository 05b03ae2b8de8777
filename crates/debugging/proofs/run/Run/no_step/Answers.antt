use Rattle.std.proofs.Common.{ap, subst, ◌≡◌, ◌<◌, ◌^◌, arith}
use Rattle.debugging.specs.Run.{RunState, after_steps_of}
use Rattle.debugging.proofs.Runs.{no_steps}
use Rattle.debugging.proofs.run.Run.no_step.Goals as goal

pub returns : goal.returns
returns c =
    let inside : RunState = record { debugger = c.self.inside.debugger; sent = c.self.inside.sent.items; played = c.self.inside.played } in
    let counted = ap (λ (r : RunState). r.played.cycles) c.self.view_is in
    let below : inside.played.cycles < 2 ^ 64 = omega (arith, counted, c.cycles_played-counted.ensures, c.cycles_played-counted.type_inv) in
    subst (λ (r : RunState). r ≡ after_steps_of 0 r) c.self.view_is (no_steps inside (omega (arith, c.history_len-held.ensures.len, c.history_len-held.ensures.most)) c.self.invariant.1 below)
