use Rattle.std.proofs.Common.{◌∙◌, ◌+◌, ◌-◌, ◌<◌, arith}
use Rattle.std.proofs.lemmas.List.{length-set}
use Rattle.memory_map.specs.BusRules.{bus_rules}
use Rattle.sm83_processor.specs.Steps.{step_of}
use Rattle.sm83_processor.proofs.StepCycles.{step-bounds}
use Rattle.machine.proofs.FastRuns.{one_passed}
use Rattle.machine.proofs.passing.run_calm_watching.Goals as goal

pub returns-then-not-is_calm-clause-run : goal.returns-then-not-is_calm-clause-run
returns-then-not-is_calm-clause-run g c =
    let known = c.loop-made.invariant in
    let took = c.run_fast_step-now.ensures.now c.if-not-is_calm.true in
    λ begun before so_far. one_passed (g.W.Watch.passes c.args.watch.now) c.loop-made.made (before + (c.calm_within-end.result - c.loop-made.left)) _ begun c.loop-made.processor c.run_fast_step-now.new.processor c.loop-made.kept
    c.report-opcode.new.ran (known.run begun before so_far) (omega (arith, known.due, known.room, c.requires.room)) c.report-opcode.ensures.kind c.run_fast_step-now.ensures.after (omega (arith, took))

pub returns-then-not-is_calm-clause-few : goal.returns-then-not-is_calm-clause-few
returns-then-not-is_calm-clause-few g c =
    let bounds = step-bounds bus_rules c.loop-made.processor in
    let took = c.run_fast_step-now.ensures.now c.if-not-is_calm.true in
    omega (arith, took, bounds.few, c.loop-made.invariant.few)

pub returns-then-not-is_there-clause-run : goal.returns-then-not-is_there-clause-run
returns-then-not-is_there-clause-run g c =
    let known = c.loop-made.invariant in
    let step = c.run_fast_step-now in
    let fewer : (step_of bus_rules c.loop-made.processor).stepped.cycles < c.loop-made.left = step.ensures.fewer c.if-not-is_calm.false in
    let rest = step.ensures.left c.if-not-is_calm.false in
    λ begun before so_far. one_passed (g.W.Watch.passes c.args.watch.now) c.loop-made.made (before + (c.calm_within-end.result - c.loop-made.left)) _ begun c.loop-made.processor step.new.processor c.loop-made.kept
    c.report-opcode.new.ran (known.run begun before so_far) (omega (arith, known.due, known.room, c.requires.room)) c.report-opcode.ensures.kind step.ensures.after
    (omega (arith, fewer, rest, known.within))

pub returns-then-not-is_there-clause-few : goal.returns-then-not-is_there-clause-few
returns-then-not-is_there-clause-few g c =
    let known = c.loop-made.invariant in
    let step = c.run_fast_step-now in
    let bounds = step-bounds bus_rules c.loop-made.processor in
    let fewer : (step_of bus_rules c.loop-made.processor).stepped.cycles < c.loop-made.left = step.ensures.fewer c.if-not-is_calm.false in
    let rest = step.ensures.left c.if-not-is_calm.false in
    omega (arith, fewer, rest, known.within, known.few, bounds.few)

pub returns-then-may_end-clause-run : goal.returns-then-may_end-clause-run
returns-then-may_end-clause-run g c =
    let known = c.loop-made.invariant in
    let step = c.run_fast_step-now in
    let fewer : (step_of bus_rules c.loop-made.processor).stepped.cycles < c.loop-made.left = step.ensures.fewer c.if-not-is_calm.false in
    let rest = step.ensures.left c.if-not-is_calm.false in
    λ begun before so_far. one_passed (g.W.Watch.passes c.args.watch.now) c.loop-made.made (before + (c.calm_within-end.result - c.loop-made.left)) _ begun c.loop-made.processor step.new.processor c.loop-made.kept
    c.report-opcode.new.ran (known.run begun before so_far) (omega (arith, known.due, known.room, c.requires.room)) c.report-opcode.ensures.kind step.ensures.after
    (omega (arith, fewer, rest, known.within))

pub returns-then-may_end-clause-few : goal.returns-then-may_end-clause-few
returns-then-may_end-clause-few g c =
    let known = c.loop-made.invariant in
    let step = c.run_fast_step-now in
    let bounds = step-bounds bus_rules c.loop-made.processor in
    let fewer : (step_of bus_rules c.loop-made.processor).stepped.cycles < c.loop-made.left = step.ensures.fewer c.if-not-is_calm.false in
    let rest = step.ensures.left c.if-not-is_calm.false in
    omega (arith, fewer, rest, known.within, known.few, bounds.few)

pub loop-made-preserved : goal.loop-made-preserved
loop-made-preserved g c =
    let known = c.loop-made.invariant in
    let step = c.run_fast_step-now in
    let bounds = step-bounds bus_rules c.loop-made.processor in
    let fewer : (step_of bus_rules c.loop-made.processor).stepped.cycles < c.loop-made.left = step.ensures.fewer c.if-not-is_calm.false in
    let rest = step.ensures.left c.if-not-is_calm.false in record {
      run = λ begun before so_far. record {
        passed = one_passed (g.W.Watch.passes c.args.watch.now) c.loop-made.made (before + (c.calm_within-end.result - c.loop-made.left)) _ begun c.loop-made.processor step.new.processor c.loop-made.kept
            c.report-opcode.new.ran (known.run begun before so_far) (omega (arith, known.due, known.room, c.requires.room)) c.report-opcode.ensures.kind step.ensures.after
            (omega (arith, fewer, rest, known.within));
        here = λ some. c.may_end-may_end.ensures c.if-may_end.false;
      };
      room = length-set c.loop-made.kept c.loop-made.made _ ∙ known.room;
      start = omega (arith, known.start);
      due = omega (arith, known.enough, fewer, rest, bounds.some);
      enough = omega (arith, known.enough, fewer, rest, bounds.some);
      within = omega (arith, rest, known.within);
      end = known.end;
      few = omega (arith, fewer, rest, known.within, known.few, bounds.few);
      fast = step.ensures.still_fast c.if-not-is_calm.false;
      calm = step.ensures.calm c.if-not-is_calm.false;
    }
