use Rattle.session.proofs.Replaying.{after_frames, after_seconds}
use Rattle.session.proofs.recovery.replay_entry.Goals as goal

pub returns-in-Some-Frames-clause-machine : goal.returns-in-Some-Frames-clause-machine
returns-in-Some-Frames-clause-machine c =
    let some = rw c.in-Some-Frames.field-0-is at c.in-Some-Frames.ensures.some in
    after_frames c.args.machine.now c.play_frames.new.machine c.args.entry.now c.in-Some-Frames.buttons c.in-Some-Frames.times some.1 c.play_frames.ensures

pub returns-in-Some-Seconds-clause-machine : goal.returns-in-Some-Seconds-clause-machine
returns-in-Some-Seconds-clause-machine c =
    let some = rw c.in-Some-Seconds.field-0-is at c.in-Some-Seconds.ensures.some in
    let few = rw c.in-Some-Seconds.field-0-is at c.in-Some-Seconds.ensures.times in
    after_seconds c.args.machine.now c.apply.new.self c.args.entry.now c.in-Some-Seconds.seconds few some.1 c.apply.ensures
