use Rattle.std.proofs.Common.{◌++◌, replicate}
use Rattle.machine.specs.Machine.{Frame}
use Rattle.script.specs.Inputs.{inputs_of_moves}
use Rattle.test_run.proofs.Reaching.{ended_after_all, ended_among, ended_over, whole_reached, whole_stops}
use Rattle.test_run.proofs.Stopping.{test_stopped}
use Rattle.test_run.proofs.run.test_to_end.Goals as goal

pub returns-in-Ok-Over-clause-ok : goal.returns-in-Ok-Over-clause-ok
returns-in-Ok-Over-clause-ok g c =
    ended_among c.args.limit (inputs_of_moves c.args.moves.now) (replicate c.args.limit (Frame 0)) c.args.machine c.args.progress.now _ _ _ c.in-Ok-Over.ended
    (rw c.in-Ok-Over.field-0-is at c.in-Ok-Over.ensures.ok)

pub returns-in-Ok-On-test_frames-clause-ok : goal.returns-in-Ok-On-test_frames-clause-ok
returns-in-Ok-On-test_frames-clause-ok g c =
    let given = inputs_of_moves c.args.moves.now in
    let more = replicate c.args.limit (Frame 0) in
    let first = rw c.in-Ok-On.field-0-is at c.in-Ok-On.ensures.ok in
    let second = rw c.in-Ok-On-test_frames.field-0-is at c.in-Ok-On-test_frames.ensures.ok in
    ended_after_all c.args.limit (given ++ more) c.args.machine c.in-Ok-On-test_frames.machine c.args.progress.now _ _ _ c.all_done.result
    (whole_reached c.args.limit given more c.args.machine c.in-Ok-On.machine c.args.progress.now c.test_moves.new.progress _ _ _ _ _ first second)
    c.all_done.ensures.line c.all_done.ensures.registers c.all_done.ensures.why

pub returns-in-Ok-Over-test_frames-clause-ok : goal.returns-in-Ok-Over-test_frames-clause-ok
returns-in-Ok-Over-test_frames-clause-ok g c =
    let given = inputs_of_moves c.args.moves.now in
    let more = replicate c.args.limit (Frame 0) in
    let first = rw c.in-Ok-On.field-0-is at c.in-Ok-On.ensures.ok in
    let second = rw c.in-Ok-Over-test_frames.field-0-is at c.in-Ok-Over-test_frames.ensures.ok in
    ended_over c.args.limit (given ++ more) c.args.machine c.args.progress.now _ _ _ c.in-Ok-Over-test_frames.ended
    (whole_reached c.args.limit given more c.args.machine c.in-Ok-On.machine c.args.progress.now c.test_moves.new.progress _ _ _ _ _ first second)

pub returns-in-Err-test_frames-clause-err : goal.returns-in-Err-test_frames-clause-err
returns-in-Err-test_frames-clause-err g c =
    let first = rw c.in-Ok-On.field-0-is at c.in-Ok-On.ensures.ok in
    whole_stops c.args.limit (inputs_of_moves c.args.moves.now) (replicate c.args.limit (Frame 0)) c.args.machine c.in-Ok-On.machine c.args.progress.now c.test_moves.new.progress _ _ _
    first c.in-Err-test_frames.ensures.err

pub returns-in-Err-clause-err : goal.returns-in-Err-clause-err
returns-in-Err-clause-err g c = test_stopped c.args.limit c.args.moves.now (replicate c.args.limit (Frame 0)) c.args.machine c.args.progress.now _ _ c.in-Err.why c.in-Err.ensures.err
