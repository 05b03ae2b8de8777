use Rattle.std.proofs.Common.{◌≡◌, ◌∙◌, ◌+◌, ◌-◌, ◌*◌, ℕ, ap, length, subst, sym, arith}
use Rattle.std.proofs.lemmas.List.{length-replicate}
use Rattle.memory_map.specs.State.{BusState}
use Rattle.sm83_processor.specs.declared.processor.Processor.{Processor}
use Rattle.debugging.specs.Counting.{IsWithin}
use Rattle.debugging.specs.Profile.{Cycles, with_steps}
use Rattle.debugging.specs.Quiet.{HasRom, is_any}
use Rattle.debugging.specs.Run.{processor_of}
use Rattle.debugging.proofs.Kept.{rom_of_run}
use Rattle.debugging.proofs.Profiles.{no_more, none_within, step_more, within_more}
use Rattle.debugging.proofs.Runs.{all_counted, all_made, begun_going, goes_on, one_made, stopped_after, stops}
use Rattle.debugging.proofs.profiling.count_up_to.Goals as goal
use Rattle.debugging.proofs.profiling.count_up_to.Goals.{else-left-gt0-via-then-left-gt0+else-is_any, else-left-gt0-via-else-left-gt0}

pub loop-left-init : goal.loop-left-init
loop-left-init c =
    let none : c.args.limit - c.args.limit ≡ 0 = omega arith in
    record {
      going = begun_going (is_any c.args.aims.now) c.args.limit c.args.run c.no_step.ensures;
      counted = rw none (sym (no_more (processor_of c.args.run) c.args.counts.now));
      within = subst (IsWithin (255 * (c.args.limit - c.args.limit))) (sym c.requires.none) (none_within c.args.rom (255 * (c.args.limit - c.args.limit)));
      size = ap (λ (counts : Cycles). length counts.rom) c.requires.none ∙ length-replicate c.args.rom 0;
    }

pub step_counted-now-requires-clause-rom : goal.step_counted-now-requires-clause-rom
step_counted-now-requires-clause-rom c = rom_of_run c.args.rom (c.args.limit - c.loop-left.left) c.args.run c.loop-left.now c.requires.rom c.loop-left.invariant.going.run

pub is_any-requires : goal.is_any-requires
is_any-requires c =
    subst (λ (p : Processor BusState). HasRom c.args.rom p.memory) (sym c.processor.ensures)
    (rom_of_run c.args.rom 1 c.loop-left.now c.step_counted-now.result
    (rom_of_run c.args.rom (c.args.limit - c.loop-left.left) c.args.run c.loop-left.now c.requires.rom c.loop-left.invariant.going.run) c.step_counted-now.ensures.run)

pub returns-then-is_any-clause-run : goal.returns-then-is_any-clause-run
returns-then-is_any-clause-run c =
    (stops (is_any c.args.aims.now) c.args.limit c.loop-left.left c.args.run c.loop-left.now c.loop-left.invariant.going c.step_counted-now.result
    (record {
      steps = 1;
      made = one_made _ _ _ c.step_counted-now.ensures.run;
      due = omega (arith, c.if-left-gt0.true);
      there = ap (is_any c.args.aims.now) (sym c.processor.ensures) ∙ sym c.is_any.ensures ∙ c.if-is_any.true;
    })).0

pub returns-then-is_any-clause-there : goal.returns-then-is_any-clause-there
returns-then-is_any-clause-there c =
    (stops (is_any c.args.aims.now) c.args.limit c.loop-left.left c.args.run c.loop-left.now c.loop-left.invariant.going c.step_counted-now.result
    (record {
      steps = 1;
      made = one_made _ _ _ c.step_counted-now.ensures.run;
      due = omega (arith, c.if-left-gt0.true);
      there = ap (is_any c.args.aims.now) (sym c.processor.ensures) ∙ sym c.is_any.ensures ∙ c.if-is_any.true;
    })).1

pub returns-then-is_any-clause-counted : goal.returns-then-is_any-clause-counted
returns-then-is_any-clause-counted c =
    let total = stopped_after (is_any c.args.aims.now) c.args.limit c.loop-left.left c.args.run c.loop-left.now c.loop-left.invariant.going c.step_counted-now.result
    (record {
      steps = 1;
      made = one_made _ _ _ c.step_counted-now.ensures.run;
      due = omega (arith, c.if-left-gt0.true);
      there = ap (is_any c.args.aims.now) (sym c.processor.ensures) ∙ sym c.is_any.ensures ∙ c.if-is_any.true;
    }) in
    step_more (c.args.limit - c.loop-left.left) _ (processor_of c.args.run) (processor_of c.loop-left.now) c.args.counts.now c.loop-left.counts c.step_counted-now.new.counts
    (ap processor_of c.loop-left.invariant.going.run) c.loop-left.invariant.counted c.step_counted-now.ensures.counted
    (omega (arith, total, c.loop-left-test.true, c.loop-left.invariant.going.few))

pub loop-left-preserved : goal.loop-left-preserved
loop-left-preserved c =
    let more : c.args.limit - (c.loop-left.left - 1) ≡ (c.args.limit - c.loop-left.left) + 1 = omega (arith, c.loop-left-test.true, c.loop-left.invariant.going.few) in
    record {
      going = goes_on (is_any c.args.aims.now) c.args.limit c.loop-left.left c.args.run c.loop-left.now c.loop-left.invariant.going 1 c.step_counted-now.result (omega (arith, c.loop-left-test.true))
          (one_made _ _ _ c.step_counted-now.ensures.run)
          (λ some. elim c.else-left-gt0.branch [
            | else-left-gt0-via-then-left-gt0+else-is_any w ↦ ap (is_any c.args.aims.now) (sym w.processor.ensures) ∙ sym w.is_any.ensures ∙ w.if-is_any.false
            | else-left-gt0-via-else-left-gt0 w ↦ absurd (omega (arith, some, w.if-left-gt0.false))
          ]);
      counted = step_more (c.args.limit - c.loop-left.left) _ (processor_of c.args.run) (processor_of c.loop-left.now) c.args.counts.now c.loop-left.counts c.step_counted-now.new.counts
          (ap processor_of c.loop-left.invariant.going.run) c.loop-left.invariant.counted c.step_counted-now.ensures.counted more;
      within = within_more (255 * (c.args.limit - c.loop-left.left) + 255) _ c.step_counted-now.new.counts (omega (arith, more)) (c.step_counted-now.ensures.within _ c.loop-left.invariant.within);
      size = c.step_counted-now.ensures.size ∙ c.loop-left.invariant.size;
    }

pub returns-clause-run : goal.returns-clause-run
returns-clause-run c = (all_made (is_any c.args.aims.now) c.args.limit c.loop-left.left c.args.run c.loop-left.now c.loop-left.invariant.going (omega (arith, c.loop-left-test.false))).0

pub returns-clause-there : goal.returns-clause-there
returns-clause-there c = (all_made (is_any c.args.aims.now) c.args.limit c.loop-left.left c.args.run c.loop-left.now c.loop-left.invariant.going (omega (arith, c.loop-left-test.false))).1

pub returns-clause-counted : goal.returns-clause-counted
returns-clause-counted c =
    let total = all_counted (is_any c.args.aims.now) c.args.limit c.loop-left.left c.args.run c.loop-left.now c.loop-left.invariant.going (omega (arith, c.loop-left-test.false)) in
    c.loop-left.invariant.counted ∙ ap (λ (n : ℕ). with_steps n (processor_of c.args.run) c.args.counts.now) (sym total)
