use Rattle.std.proofs.Common.{◌-◌, ◌∙◌, ap, subst, sym, arith}
use Rattle.debugging.specs.Quiet.{is_any}
use Rattle.memory_map.specs.State.{BusState}
use Rattle.sm83_processor.specs.declared.processor.Processor.{Processor}
use Rattle.debugging.specs.Quiet.{HasRom}
use Rattle.debugging.proofs.Kept.{rom_of_run}
use Rattle.debugging.proofs.Runs.{all_made, begun_going, goes_on, one_made, stops, stops_sooner}
use Rattle.debugging.proofs.run.Run.run_up_to.Goals as goal
use Rattle.debugging.proofs.run.Run.run_up_to.Goals.{else-left-gt0-via-then-left-gt0+else-is_any, else-left-gt0-via-else-left-gt0, else-left-gt0-2-via-then-left-gt0-2+else-is_any-2, else-left-gt0-2-via-else-left-gt0-2}

pub loop-left-init : goal.loop-left-init
loop-left-init g c = begun_going (is_any c.args.aims.now) c.args.limit c.args.self c.no_step.ensures

pub returns-then-is_any-clause-run : goal.returns-then-is_any-clause-run
returns-then-is_any-clause-run g c =
    (stops (is_any c.args.aims.now) c.args.limit c.loop-left.left c.args.self c.loop-left.run c.loop-left.invariant c.step.result.run
    (record {
      steps = 1;
      made = one_made _ _ _ c.step.ensures.run;
      due = omega (arith, c.if-left-gt0.true);
      there = ap (is_any c.args.aims.now) (sym c.processor-then-left-gt0.ensures) ∙ sym c.is_any.ensures ∙ c.if-is_any.true;
    })).0

pub returns-then-is_any-clause-there : goal.returns-then-is_any-clause-there
returns-then-is_any-clause-there g c =
    (stops (is_any c.args.aims.now) c.args.limit c.loop-left.left c.args.self c.loop-left.run c.loop-left.invariant c.step.result.run
    (record {
      steps = 1;
      made = one_made _ _ _ c.step.ensures.run;
      due = omega (arith, c.if-left-gt0.true);
      there = ap (is_any c.args.aims.now) (sym c.processor-then-left-gt0.ensures) ∙ sym c.is_any.ensures ∙ c.if-is_any.true;
    })).1

pub returns-then-quiet_up_to-clause-run : goal.returns-then-quiet_up_to-clause-run
returns-then-quiet_up_to-clause-run g c =
    (stops (is_any c.args.aims.now) c.args.limit c.loop-left.left c.args.self c.loop-left.run c.loop-left.invariant c.quiet_up_to.new.self
    (stops_sooner (is_any c.args.aims.now) c.min-quiet.result c.loop-left.left c.loop-left.run c.quiet_up_to.new.self (omega (arith, c.min-quiet.ensures)) (c.quiet_up_to.ensures.there c.if-quiet_up_to.true))).0

pub returns-then-quiet_up_to-clause-there : goal.returns-then-quiet_up_to-clause-there
returns-then-quiet_up_to-clause-there g c =
    (stops (is_any c.args.aims.now) c.args.limit c.loop-left.left c.args.self c.loop-left.run c.loop-left.invariant c.quiet_up_to.new.self
    (stops_sooner (is_any c.args.aims.now) c.min-quiet.result c.loop-left.left c.loop-left.run c.quiet_up_to.new.self (omega (arith, c.min-quiet.ensures)) (c.quiet_up_to.ensures.there c.if-quiet_up_to.true))).1

pub returns-then-is_any-2-clause-run : goal.returns-then-is_any-2-clause-run
returns-then-is_any-2-clause-run g c =
    (stops (is_any c.args.aims.now) c.args.limit c.loop-left.left c.args.self c.loop-left.run c.loop-left.invariant c.quiet_up_to.new.self
    (record {
      steps = c.min-quiet.result;
      made = c.quiet_up_to.ensures.made c.if-quiet_up_to.false;
      due = omega (arith, c.if-left-gt0-2.true);
      there = ap (is_any c.args.aims.now) (sym c.processor-then-left-gt0-2.ensures) ∙ sym c.is_any-then-left-gt0-2.ensures ∙ c.if-is_any-2.true;
    })).0

pub returns-then-is_any-2-clause-there : goal.returns-then-is_any-2-clause-there
returns-then-is_any-2-clause-there g c =
    (stops (is_any c.args.aims.now) c.args.limit c.loop-left.left c.args.self c.loop-left.run c.loop-left.invariant c.quiet_up_to.new.self
    (record {
      steps = c.min-quiet.result;
      made = c.quiet_up_to.ensures.made c.if-quiet_up_to.false;
      due = omega (arith, c.if-left-gt0-2.true);
      there = ap (is_any c.args.aims.now) (sym c.processor-then-left-gt0-2.ensures) ∙ sym c.is_any-then-left-gt0-2.ensures ∙ c.if-is_any-2.true;
    })).1

pub loop-left-preserved-then-quiet-eq0 : goal.loop-left-preserved-then-quiet-eq0
loop-left-preserved-then-quiet-eq0 g c =
    goes_on (is_any c.args.aims.now) c.args.limit c.loop-left.left c.args.self c.loop-left.run c.loop-left.invariant 1 c.step.result.run (omega (arith, c.loop-left-test.true))
    (one_made _ _ _ c.step.ensures.run)
    (λ some. elim c.else-left-gt0.branch [
      | else-left-gt0-via-then-left-gt0+else-is_any w ↦ ap (is_any c.args.aims.now) (sym w.processor-then-left-gt0.ensures) ∙ sym w.is_any.ensures ∙ w.if-is_any.false
      | else-left-gt0-via-else-left-gt0 w ↦ absurd (omega (arith, some, w.if-left-gt0.false))
    ])

pub loop-left-preserved : goal.loop-left-preserved
loop-left-preserved g c =
    goes_on (is_any c.args.aims.now) c.args.limit c.loop-left.left c.args.self c.loop-left.run c.loop-left.invariant c.min-quiet.result c.quiet_up_to.new.self (omega (arith, c.min-quiet.ensures))
    (c.quiet_up_to.ensures.made c.if-quiet_up_to.false)
    (λ some. elim c.else-left-gt0-2.branch [
      | else-left-gt0-2-via-then-left-gt0-2+else-is_any-2 w ↦
          ap (is_any c.args.aims.now) (sym w.processor-then-left-gt0-2.ensures) ∙ sym w.is_any-then-left-gt0-2.ensures ∙ w.if-is_any-2.false
      | else-left-gt0-2-via-else-left-gt0-2 w ↦ absurd (omega (arith, some, w.if-left-gt0-2.false))
    ])

pub returns-clause-run : goal.returns-clause-run
returns-clause-run g c = (all_made (is_any c.args.aims.now) c.args.limit c.loop-left.left c.args.self c.loop-left.run c.loop-left.invariant (omega (arith, c.loop-left-test.false))).0

pub returns-clause-there : goal.returns-clause-there
returns-clause-there g c = (all_made (is_any c.args.aims.now) c.args.limit c.loop-left.left c.args.self c.loop-left.run c.loop-left.invariant (omega (arith, c.loop-left-test.false))).1

pub quiet_up_to-requires-clause-rom : goal.quiet_up_to-requires-clause-rom
quiet_up_to-requires-clause-rom g c = rom_of_run c.args.rom (c.args.limit - c.loop-left.left) c.args.self c.loop-left.run c.requires.rom c.loop-left.invariant.run

pub is_any-requires : goal.is_any-requires
is_any-requires g c =
    subst (λ (p : Processor BusState). HasRom c.args.rom p.memory) (sym c.processor-then-left-gt0.ensures)
    (rom_of_run c.args.rom 1 c.loop-left.run c.step.result.run
    (rom_of_run c.args.rom (c.args.limit - c.loop-left.left) c.args.self c.loop-left.run c.requires.rom c.loop-left.invariant.run) c.step.ensures.run)

pub is_any-requires-then-left-gt0-2 : goal.is_any-requires-then-left-gt0-2
is_any-requires-then-left-gt0-2 g c =
    subst (λ (p : Processor BusState). HasRom c.args.rom p.memory) (sym c.processor-then-left-gt0-2.ensures)
    (rom_of_run c.args.rom c.min-quiet.result c.loop-left.run c.quiet_up_to.new.self
    (rom_of_run c.args.rom (c.args.limit - c.loop-left.left) c.args.self c.loop-left.run c.requires.rom c.loop-left.invariant.run)
    (c.quiet_up_to.ensures.made c.if-quiet_up_to.false).run)
