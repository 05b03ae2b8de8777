use Rattle.std.proofs.Common.{◌∙◌, refl, arith}
use Rattle.std.proofs.lemmas.Bool.{not-false}
use Rattle.machine.proofs.FastRuns.{none_passed}
use Rattle.machine.proofs.passing.run_watching.Goals as goal

pub loop-processor-init : goal.loop-processor-init
loop-processor-init g c = record {
  run = none_passed (g.W.Watch.passes c.args.watch.now) c.args.processor.now c.args.kept.now;
  room = refl;
  due = c.requires.some;
  few = omega arith;
  fast = c.requires.fast;
}

pub returns-then-not-went-clause-run : goal.returns-then-not-went-clause-run
returns-then-not-went-clause-run g c = c.run_watching_here-went.ensures.run c.args.processor.now c.loop-processor.cycles c.loop-processor.invariant.run

pub loop-processor-preserved : goal.loop-processor-preserved
loop-processor-preserved g c =
    let known = c.loop-processor.invariant in
    let went = c.run_watching_here-went in record {
      run = record {
        passed = went.ensures.run c.args.processor.now c.loop-processor.cycles known.run;
        here = λ some. c.may_end.ensures c.if-may_end.false;
      };
      room = went.ensures.room ∙ known.room;
      due = c.if-made-most.false;
      few = omega (arith, went.ensures.few, known.few);
      fast = went.ensures.fast (not-false went.result.is_fast c.if-not-went.false);
    }
