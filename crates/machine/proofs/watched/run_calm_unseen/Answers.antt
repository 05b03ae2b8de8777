use Rattle.std.proofs.Common.{◌≡◌, ℕ, ◌+◌, ◌-◌, ◌<◌, refl, ap, sym, ◌∙◌, arith}
use Rattle.std.specs.Prelude.{◌==◌}
use Rattle.memory_map.specs.BusRules.{bus_rules}
use Rattle.memory_map.proofs.QuietCycles.{fewer_are_calm}
use Rattle.sm83_processor.specs.Steps.{step_of}
use Rattle.sm83_processor.proofs.StepCycles.{step-bounds}
use Rattle.machine.specs.Watched.{seen_in, seen_from}
use Rattle.machine.specs.Watching.{in_frame}
use Rattle.machine.proofs.Watching.{fast_on, seen_on}
use Rattle.machine.proofs.watched.run_calm_unseen.Goals as goal

pub loop-passed-init : goal.loop-passed-init
loop-passed-init g c =
    let left = c.min-calm.result in
    let end = c.args.passed + left in
    let same : end - left ≡ c.args.passed = omega arith in record {
      run = ap (λ (n : ℕ). seen_in (in_frame n c.args.processor.now)) same;
      start = omega arith;
      below = omega (arith, c.requires.below);
      within = omega arith;
      end = omega (arith, c.requires.below, c.min-calm.ensures);
      fast = c.requires.fast;
      calm = fewer_are_calm c.calm.result left c.args.processor.now.memory (omega (arith, c.min-calm.ensures, c.from.ensures)) c.calm.ensures;
      silent = c.requires.silent;
    }

pub returns-then-not-is_calm-clause-run : goal.returns-then-not-is_calm-clause-run
returns-then-not-is_calm-clause-run g c =
    let step = c.run_fast_step-now in
    let known = c.loop-passed.invariant in
    sym known.run
    ∙ fast_on (c.args.passed + c.min-calm.result - c.loop-passed.left) (step_of bus_rules c.loop-passed.processor).stepped.cycles c.read-opcode.result (c.read-opcode.result == 0x40) c.loop-passed.processor step.new.processor
    known.below step.ensures.after refl known.silent known.fast c.read-opcode.ensures refl
    ∙ ap (λ (n : ℕ). seen_from (c.read-opcode.result == 0x40) (in_frame n step.new.processor)) (sym (step.ensures.now c.if-not-is_calm.true))

pub returns-then-not-is_calm-clause-more : goal.returns-then-not-is_calm-clause-more
returns-then-not-is_calm-clause-more g c =
    let bounds = step-bounds bus_rules c.loop-passed.processor in
    omega (arith, c.loop-passed.invariant.start, c.run_fast_step-now.ensures.now c.if-not-is_calm.true, bounds.some)

pub returns-then-not-is_calm-clause-few : goal.returns-then-not-is_calm-clause-few
returns-then-not-is_calm-clause-few g c =
    let bounds = step-bounds bus_rules c.loop-passed.processor in
    omega (arith, c.loop-passed.invariant.below, c.run_fast_step-now.ensures.now c.if-not-is_calm.true, bounds.few)

pub loop-passed-smaller : goal.loop-passed-smaller
loop-passed-smaller g c =
    let bounds = step-bounds bus_rules c.loop-passed.processor in
    let step = c.run_fast_step-now in
    omega (arith, step.ensures.fewer c.if-not-is_calm.false, step.ensures.left c.if-not-is_calm.false, bounds.some)

pub loop-passed-preserved : goal.loop-passed-preserved
loop-passed-preserved g c =
    let step = c.run_fast_step-now in
    let known = c.loop-passed.invariant in
    let left = c.loop-passed.left in
    let end = c.args.passed + c.min-calm.result in
    let cycles = (step_of bus_rules c.loop-passed.processor).stepped.cycles in
    let fewer : cycles < left = step.ensures.fewer c.if-not-is_calm.false in
    let rest : step.result.left ≡ left - cycles = step.ensures.left c.if-not-is_calm.false in
    let on : end - step.result.left ≡ end - left + cycles = omega (arith, rest, fewer, known.within) in record {
      run = ap (λ (n : ℕ). seen_in (in_frame n step.new.processor)) on
          ∙ seen_on (c.read-opcode.result == 0x40) (in_frame (end - left) c.loop-passed.processor) (in_frame (end - left + cycles) step.new.processor) (in_frame c.args.passed c.args.processor.now)
          (fast_on (end - left) cycles c.read-opcode.result (c.read-opcode.result == 0x40) c.loop-passed.processor step.new.processor known.below step.ensures.after refl known.silent known.fast c.read-opcode.ensures refl)
          (step.ensures.calm_more c.if-not-is_calm.false) known.run;
      start = omega (arith, known.start, on);
      below = omega (arith, known.end, rest, fewer, known.within);
      within = omega (arith, rest, known.within);
      end = known.end;
      fast = step.ensures.still_fast c.if-not-is_calm.false;
      calm = step.ensures.calm c.if-not-is_calm.false;
      silent = step.ensures.silent c.if-not-is_calm.false;
    }

pub returns-then-not-is_there-clause-run : goal.returns-then-not-is_there-clause-run
returns-then-not-is_there-clause-run g c =
    let step = c.run_fast_step-now in
    let known = c.loop-passed.invariant in
    let left = c.loop-passed.left in
    let end = c.args.passed + c.min-calm.result in
    let rest = step.result.left in
    let cycles = (step_of bus_rules c.loop-passed.processor).stepped.cycles in
    let fewer : cycles < left = step.ensures.fewer c.if-not-is_calm.false in
    let lessened : step.result.left ≡ left - cycles = step.ensures.left c.if-not-is_calm.false in
    let on : end - rest ≡ end - left + cycles = omega (arith, lessened, fewer, known.within) in
    sym (ap (λ (n : ℕ). seen_in (in_frame n step.new.processor)) on
    ∙ seen_on (c.read-opcode.result == 0x40) (in_frame (end - left) c.loop-passed.processor) (in_frame (end - left + cycles) step.new.processor) (in_frame c.args.passed c.args.processor.now)
    (fast_on (end - left) cycles c.read-opcode.result (c.read-opcode.result == 0x40) c.loop-passed.processor step.new.processor known.below step.ensures.after refl known.silent known.fast c.read-opcode.ensures refl)
    (step.ensures.calm_more c.if-not-is_calm.false) known.run)

pub returns-then-not-is_there-clause-more : goal.returns-then-not-is_there-clause-more
returns-then-not-is_there-clause-more g c =
    let step = c.run_fast_step-now in
    let known = c.loop-passed.invariant in
    let bounds = step-bounds bus_rules c.loop-passed.processor in
    omega (arith, step.ensures.fewer c.if-not-is_calm.false, step.ensures.left c.if-not-is_calm.false, known.within, known.start, bounds.some)
