use Rattle.std.proofs.Common.{refl}
use Rattle.test_run.proofs.Reaching.{frame_full, frame_stops}
use Rattle.test_run.proofs.run.test_frame.Goals as goal

pub returns-then-progress-limit-clause-ok : goal.returns-then-progress-limit-clause-ok
returns-then-progress-limit-clause-ok g c =
    frame_full c.args.limit c.args.buttons c.args.machine c.args.progress.now _ c.all_done.result c.requires c.if-progress-limit.true
    c.all_done.ensures.line c.all_done.ensures.registers c.all_done.ensures.why

pub returns-in-Err-clause-err : goal.returns-in-Err-clause-err
returns-in-Err-clause-err g c =
    frame_stops c.args.limit c.args.buttons c.args.machine c.args.progress.now _ _ c.if-progress-limit.false c.in-Err.ensures.err

pub returns-in-Ok-clause-ok : goal.returns-in-Ok-clause-ok
returns-in-Ok-clause-ok g c =
    c.after_frame.ensures.ok c.args.limit c.args.buttons c.args.machine c.args.progress.now _ _ refl c.if-progress-limit.false c.in-Ok.ensures.ok

pub returns-in-Ok-clause-kept : goal.returns-in-Ok-clause-kept
returns-in-Ok-clause-kept g c = c.after_frame.ensures.kept c.args.buttons c.args.machine c.in-Ok.ensures.ok.frame
