use Rattle.std.proofs.Common.{◌++◌, replicate}
use Rattle.machine.specs.Machine.{Frame}
use Rattle.script.specs.Inputs.{inputs_of_moves}
use Rattle.test_run.specs.Tested.{tested}
use Rattle.test_run.proofs.Ending.{end_cut, end_verdict, end_written}
use Rattle.test_run.proofs.Stopping.{text_stopped}
use Rattle.test_run.proofs.run.test_machine.Goals as goal

pub returns-in-Err-write_end-clause-err : goal.returns-in-Err-write_end-clause-err
returns-in-Err-write_end-clause-err g c = end_cut _ _ _ _ _ c.in-Ok.ended c.new.ensures c.in-Ok.ensures.ok _ c.in-Err-write_end.ensures.err

pub returns-clause-written : goal.returns-clause-written
returns-clause-written g c = end_written _ _ _ _ _ c.in-Ok.ended c.new.ensures c.in-Ok.ensures.ok _ c.in_default.ensures.ok

pub returns-clause-verdict : goal.returns-clause-verdict
returns-clause-verdict g c =
    end_verdict _ _ _ _ _ c.in-Ok.ended c.new.ensures c.in-Ok.ensures.ok c.verdict_by.result c.has_passed.result c.has_failed.result c.verdict_by.ensures c.has_passed.ensures c.has_failed.ensures

pub returns-in-Err-clause-err : goal.returns-in-Err-clause-err
returns-in-Err-clause-err g c =
    text_stopped c.args.frames 0 c.args.moves.now c.args.machine (tested c.args.frames 0 (inputs_of_moves c.args.moves.now ++ replicate c.args.frames (Frame 0)) c.args.machine) _ _ c.in-Err.why c.in-Err.ensures.err
