use Rattle.std.proofs.Common.{◌≡◌, ◌+◌, ◌-◌, replicate, ap, ◌∙◌, arith}
use Rattle.machine.specs.Machine.{MachineState, after}
use Rattle.machine.specs.Machine.{Frame}
use Rattle.session.proofs.Replaying.{frames_left, no_frames}
use Rattle.embedding.proofs.console.play_frames.Goals as goal

pub loop-i-init : goal.loop-i-init
loop-i-init c =
    let e : c.args.count - 0 ≡ c.args.count = omega arith in
    ap (λ n. after c.args.machine.now (replicate n (Frame c.args.buttons))) e

pub loop-i-preserved : goal.loop-i-preserved
loop-i-preserved c =
    ap (λ (m : MachineState). after m (replicate (c.args.count - (c.loop-i._i + 1)) (Frame c.args.buttons))) c.frame.ensures
    ∙ frames_left c.loop-i.machine (Frame c.args.buttons) c.args.count c.loop-i._i c.loop-i-test.true
    ∙ c.loop-i.invariant

pub returns : goal.returns
returns c = no_frames c.loop-i.machine (Frame c.args.buttons) c.args.count c.loop-i._i c.loop-i-test.false ∙ c.loop-i.invariant
