use Rattle.std.proofs.Common.{◌≡◌, ◌-◌, ℕ, replicate, subst, arith}
use Rattle.input_entries.specs.Inputs.{frame}
use Rattle.replaying.specs.Replayed.{HasReplayed}
use Rattle.replaying.proofs.Replayed.{replayed_frames}
use Rattle.replaying.proofs.replay.replay_frames.Goals as goal

pub returns-then-left-times-clause-replayed : goal.returns-then-left-times-clause-replayed
returns-then-left-times-clause-replayed c =
    let none : c.args.left - c.args.left ≡ 0 = omega arith in
    subst (λ (n : ℕ). HasReplayed c.args.machine.now c.play_frames.new.machine c.args.left n (replicate c.args.times (frame c.args.buttons))) none
    (replayed_frames c.args.machine.now c.play_frames.new.machine c.args.buttons c.args.times c.args.left c.args.left (omega arith) c.play_frames.ensures)

pub returns-clause-replayed : goal.returns-clause-replayed
returns-clause-replayed c =
    replayed_frames c.args.machine.now c.play_frames-2.new.machine c.args.buttons c.args.times c.args.left c.args.times (omega arith) c.play_frames-2.ensures
