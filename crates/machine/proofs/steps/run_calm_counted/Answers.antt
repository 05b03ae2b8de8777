use Rattle.std.proofs.Common.{◌∙◌, ◌-◌, ◌<◌, refl, arith}
use Rattle.memory_map.specs.BusRules.{bus_rules}
use Rattle.sm83_processor.specs.Steps.{step_of}
use Rattle.sm83_processor.proofs.StepCycles.{step-bounds}
use Rattle.machine.proofs.StepsLeft.{one_fewer}
use Rattle.machine.proofs.steps.run_calm_counted.Goals as goal

pub loop-left-init : goal.loop-left-init
loop-left-init g c = record {
  run = refl;
  most = omega arith;
  some = c.requires.some;
  enough = c.calm_within-end.ensures.few;
  within = omega arith;
  end = c.calm_within-end.ensures.frame;
  fast = c.requires.fast;
  calm = c.calm_within-end.ensures.calm;
}

pub returns-then-not-is_calm-clause-run : goal.returns-then-not-is_calm-clause-run
returns-then-not-is_calm-clause-run g c =
    let known = c.loop-left.invariant in
    one_fewer bus_rules c.loop-left.left (c.loop-left.left - 1) c.loop-left.processor c.run_fast_step-fewer.new.processor (omega (arith, known.some))
    c.run_fast_step-fewer.ensures.after
    ∙ known.run

pub returns-then-not-is_there-clause-run : goal.returns-then-not-is_there-clause-run
returns-then-not-is_there-clause-run g c =
    let known = c.loop-left.invariant in
    one_fewer bus_rules c.loop-left.left (c.loop-left.left - 1) c.loop-left.processor c.run_fast_step-fewer.new.processor (omega (arith, known.some))
    c.run_fast_step-fewer.ensures.after
    ∙ known.run

pub loop-left-preserved : goal.loop-left-preserved
loop-left-preserved g c =
    let known = c.loop-left.invariant in
    let step = c.run_fast_step-fewer in
    let bounds = step-bounds bus_rules c.loop-left.processor in
    let fewer : (step_of bus_rules c.loop-left.processor).stepped.cycles < c.loop-left.calm = step.ensures.fewer c.if-not-is_calm.false in
    let rest = step.ensures.left c.if-not-is_calm.false in record {
      run = one_fewer bus_rules c.loop-left.left (c.loop-left.left - 1) c.loop-left.processor step.new.processor (omega (arith, known.some)) step.ensures.after ∙ known.run;
      most = omega (arith, known.most);
      some = omega (arith, known.enough, fewer, bounds.some);
      enough = omega (arith, known.enough, rest, fewer, bounds.some);
      within = omega (arith, rest, known.within);
      end = known.end;
      fast = step.ensures.still_fast c.if-not-is_calm.false;
      calm = step.ensures.calm c.if-not-is_calm.false;
    }
