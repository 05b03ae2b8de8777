use Rattle.std.proofs.Common.{refl}
use Rattle.replaying.proofs.Answers.{on_ok, on_err}
use Rattle.replaying.proofs.Written.{seconds_written, seconds_stop_first, seconds_stop}
use Rattle.replaying.proofs.lines.write_run_and_seconds.Goals as goal

pub returns-in-Err-clause-err : goal.returns-in-Err-clause-err
returns-in-Err-clause-err g c = seconds_stop_first c.args.run.now c.args.seconds (g.W.Output.contents c.args.out.now) (g.W.Output.contents c.write_run.new.out) c.in-Err.ensures.err

pub returns-clause-ok : goal.returns-clause-ok
returns-clause-ok g c =
    on_ok c.write_seconds.result c.write_seconds.ensures.ok
    (λ written. seconds_written c.args.run.now _ c.args.seconds (g.W.Output.contents c.args.out.now) (g.W.Output.contents c.write_run.new.out) (g.W.Output.contents c.write_seconds.new.out) refl refl c.in_default.ensures.ok written)

pub returns-clause-err : goal.returns-clause-err
returns-clause-err g c =
    on_err c.write_seconds.result c.write_seconds.ensures.err
    (λ part. seconds_stop c.args.run.now c.args.seconds (g.W.Output.contents c.args.out.now) (g.W.Output.contents c.write_run.new.out) (g.W.Output.contents c.write_seconds.new.out) c.in_default.ensures.ok part)
