use Rattle.std.proofs.Common.{refl, arith}
use Rattle.replaying.proofs.Answers.{on_ok, on_err}
use Rattle.replaying.proofs.Written.{frames_begin, frames_stop, frames_lengthen, frames_fill, frames_fill_stop}
use Rattle.replaying.proofs.lines.write_frames.Goals as goal

pub returns-then-before-buttons-clause-ok : goal.returns-then-before-buttons-clause-ok
returns-then-before-buttons-clause-ok g c =
    on_ok c.write_run.result c.write_run.ensures.ok
    (λ written. frames_begin c.args.run.now _ c.args.times (g.W.Output.contents c.args.out.now) (g.W.Output.contents c.write_run.new.out) c.if-before-buttons.true c.requires.some (omega arith) refl written)

pub returns-then-before-buttons-clause-err : goal.returns-then-before-buttons-clause-err
returns-then-before-buttons-clause-err g c =
    on_err c.write_run.result c.write_run.ensures.err
    (λ part. frames_stop c.args.run.now c.args.buttons c.args.times (g.W.Output.contents c.args.out.now) (g.W.Output.contents c.write_run.new.out) c.if-before-buttons.true c.requires.some (omega arith) part)

pub returns-then-times-le-MOST_TIMES-clause-ok : goal.returns-then-times-le-MOST_TIMES-clause-ok
returns-then-times-le-MOST_TIMES-clause-ok g c =
    frames_lengthen c.args.run.now _ c.args.times (g.W.Output.contents c.args.out.now) c.if-before-buttons.false refl c.if-times-le-MOST_TIMES.true

pub returns-clause-ok : goal.returns-clause-ok
returns-clause-ok g c =
    on_ok c.write_run-2.result c.write_run-2.ensures.ok
    (λ written. frames_fill c.args.run.now _ c.args.times (g.W.Output.contents c.args.out.now) (g.W.Output.contents c.write_run-2.new.out) c.if-before-buttons.false c.args.run.now.few (omega arith) c.if-times-le-MOST_TIMES.false refl written)

pub returns-clause-err : goal.returns-clause-err
returns-clause-err g c =
    on_err c.write_run-2.result c.write_run-2.ensures.err
    (λ part. frames_fill_stop c.args.run.now c.args.buttons c.args.times (g.W.Output.contents c.args.out.now) (g.W.Output.contents c.write_run-2.new.out) c.if-before-buttons.false c.args.run.now.few (omega arith) c.if-times-le-MOST_TIMES.false part)
