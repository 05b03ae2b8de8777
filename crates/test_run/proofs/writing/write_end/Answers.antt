use Rattle.std.proofs.Common.{◌++◌}
use Rattle.exact_text.proofs.Writes.{appends_twice, prefix_of_longer, whole_then_prefix}
use Rattle.test_run.specs.Told.{line_end_told}
use Rattle.test_run.specs.Text.{frames_line, ended_line}
use Rattle.test_run.proofs.writing.write_end.Goals as goal

pub returns-in-Err-write_line-clause-err : goal.returns-in-Err-write_line-clause-err
returns-in-Err-write_line-clause-err g c =
    let a = line_end_told c.args.progress.now.told.last in
    let b = c.args.ended.now.line.bytes in
    let d = frames_line c.args.progress.now.done in
    let e = ended_line c.args.ended.now.why in
    whole_then_prefix _ _ _ a (b ++ (d ++ e)) c.in_default.ensures.ok (prefix_of_longer _ _ b (d ++ e) c.in-Err-write_line.ensures.err)

pub returns-in-Err-write_frames-clause-err : goal.returns-in-Err-write_frames-clause-err
returns-in-Err-write_frames-clause-err g c =
    let a = line_end_told c.args.progress.now.told.last in
    let b = c.args.ended.now.line.bytes in
    let d = frames_line c.args.progress.now.done in
    let e = ended_line c.args.ended.now.why in
    whole_then_prefix _ _ _ a (b ++ (d ++ e)) c.in_default.ensures.ok
    (whole_then_prefix _ _ _ b (d ++ e) c.in_default-write_line.ensures.ok (prefix_of_longer _ _ d e c.in-Err-write_frames.ensures.err))

pub returns-in-Err-write_why-clause-err : goal.returns-in-Err-write_why-clause-err
returns-in-Err-write_why-clause-err g c =
    let a = line_end_told c.args.progress.now.told.last in
    let b = c.args.ended.now.line.bytes in
    let d = frames_line c.args.progress.now.done in
    let e = ended_line c.args.ended.now.why in
    whole_then_prefix _ _ _ a (b ++ (d ++ e)) c.in_default.ensures.ok
    (whole_then_prefix _ _ _ b (d ++ e) c.in_default-write_line.ensures.ok (whole_then_prefix _ _ _ d e c.in_default-write_frames.ensures.ok c.in-Err-write_why.ensures.err))

pub returns-in-Ok-clause-ok : goal.returns-in-Ok-clause-ok
returns-in-Ok-clause-ok g c =
    let a = line_end_told c.args.progress.now.told.last in
    let b = c.args.ended.now.line.bytes in
    let d = frames_line c.args.progress.now.done in
    let e = ended_line c.args.ended.now.why in
    appends_twice _ _ _ a (b ++ (d ++ e)) c.in_default.ensures.ok
    (appends_twice _ _ _ b (d ++ e) c.in_default-write_line.ensures.ok (appends_twice _ _ _ d e c.in_default-write_frames.ensures.ok c.in-Ok.ensures.ok))
