use Rattle.std.proofs.Common.{◌≡◌, ◌∙◌, ◌+◌, ◌<◌, ℕ, List, false, ap, sym, subst, arith}
use Rattle.memory_map.specs.State.{BusState}
use Rattle.machine.specs.Machine.{MachineState}
use Rattle.sm83_processor.specs.declared.processor.Processor.{Processor}
use Rattle.debugger.specs.History.{DebuggerState}
use Rattle.debugger.specs.Run.{HasPassed}
use Rattle.debugger.proofs.Histories.{not_begun, pass_on}
use Rattle.debugging.specs.declared.aims.Aim.{Aim}
use Rattle.debugging.specs.Quiet.{MakesIn, is_any}
use Rattle.debugging.proofs.Kept.{rom_after}
use Rattle.debugging.proofs.Runs.{cycles_in_all, none_cycles}
use Rattle.debugging.proofs.run.step_up_to.Goals as goal

pub loop-made-init : goal.loop-made-init
loop-made-init g c = record {
  run = record {
    run = not_begun c.args.debugger.now (omega (arith, c.history_len-held.ensures.len, c.history_len-held.ensures.most));
    past = λ k some below. absurd (omega (arith, some, below));
  };
  here = λ some. absurd (omega (arith, some));
  due = c.requires.some;
  took = sym (none_cycles c.args.debugger.now.machine.processor);
  few = omega arith;
}

abbrev Elsewhere : List Aim → Processor BusState → Type 0
Elsewhere aims p = is_any aims p ≡ false

-- the steps so far, and those that a watch let pass next
more : (aims : List Aim) (passes : Processor BusState → Type 0) → ((p : Processor BusState) → passes p → Elsewhere aims p) → (m n : ℕ) (d e f : DebuggerState) → HasPassed (Elsewhere aims) m d e
    → (0 < m → Elsewhere aims e.machine.processor) → HasPassed passes n e f → HasPassed (Elsewhere aims) (m + n) d f
more aims passes lets m n d e f so_far here next = pass_on (Elsewhere aims) m n d e f so_far here (record { run = next.run; past = λ k some below. lets _ (next.past k some below) })

pub loop-made-preserved : goal.loop-made-preserved
loop-made-preserved g c =
    let known = c.loop-made.invariant in
    record {
      run = more c.args.aims.now (g.W.Watch.passes c.args.watch.now) c.requires.watch c.loop-made.made c.step_on-passed.result.steps c.args.debugger.now c.loop-made.debugger c.step_on-passed.new.debugger known.run known.here c.step_on-passed.ensures.run;
      here = λ some. ap (is_any c.args.aims.now) (sym (c.processor.ensures ∙ ap (λ (m : MachineState). m.processor) c.machine.ensures)) ∙ sym c.is_any.ensures ∙ c.if-is_any.false;
      due = c.if-made-limit.false;
      took = cycles_in_all c.loop-made.made c.step_on-passed.result.steps c.loop-made.cycles c.step_on-passed.result.cycles c.args.debugger.now c.loop-made.debugger known.run.run known.took c.step_on-passed.ensures.cycles;
      few = omega (arith, known.few, c.step_on-passed.ensures.few);
    }

pub returns-then-made-limit-clause-made : goal.returns-then-made-limit-clause-made
returns-then-made-limit-clause-made g c = λ _.
    let known = c.loop-made.invariant in
    let all : c.loop-made.made + c.step_on-passed.result.steps ≡ c.args.limit = omega (arith, known.due, c.step_on-passed.ensures.most, c.if-made-limit.true) in
    let passed =
    more c.args.aims.now (g.W.Watch.passes c.args.watch.now) c.requires.watch c.loop-made.made c.step_on-passed.result.steps c.args.debugger.now c.loop-made.debugger c.step_on-passed.new.debugger known.run known.here c.step_on-passed.ensures.run in
    subst (λ (n : ℕ). MakesIn (is_any c.args.aims.now) n (c.loop-made.cycles + c.step_on-passed.result.cycles) c.args.debugger.now c.step_on-passed.new.debugger) all
    (record {
      some = omega (arith, all, c.requires.some);
      past = passed.past;
      run = passed.run;
      took = cycles_in_all c.loop-made.made c.step_on-passed.result.steps c.loop-made.cycles c.step_on-passed.result.cycles c.args.debugger.now c.loop-made.debugger known.run.run known.took c.step_on-passed.ensures.cycles;
    })

pub returns-then-is_any-clause-there : goal.returns-then-is_any-clause-there
returns-then-is_any-clause-there g c = λ _.
    let known = c.loop-made.invariant in
    let passed =
    more c.args.aims.now (g.W.Watch.passes c.args.watch.now) c.requires.watch c.loop-made.made c.step_on-passed.result.steps c.args.debugger.now c.loop-made.debugger c.step_on-passed.new.debugger known.run known.here c.step_on-passed.ensures.run in
    record {
      steps = c.loop-made.made + c.step_on-passed.result.steps;
      made = record {
        some = omega (arith, c.step_on-passed.ensures.some);
        past = passed.past;
        run = passed.run;
        took = cycles_in_all c.loop-made.made c.step_on-passed.result.steps c.loop-made.cycles c.step_on-passed.result.cycles c.args.debugger.now c.loop-made.debugger known.run.run known.took c.step_on-passed.ensures.cycles;
      };
      due = c.if-made-limit.false;
      there = ap (is_any c.args.aims.now) (sym (c.processor.ensures ∙ ap (λ (m : MachineState). m.processor) c.machine.ensures)) ∙ sym c.is_any.ensures ∙ c.if-is_any.true;
    }

pub is_any-requires : goal.is_any-requires
is_any-requires g c =
    let known = c.loop-made.invariant in
    let passed =
    more c.args.aims.now (g.W.Watch.passes c.args.watch.now) c.requires.watch c.loop-made.made c.step_on-passed.result.steps c.args.debugger.now c.loop-made.debugger c.step_on-passed.new.debugger known.run known.here c.step_on-passed.ensures.run in
    rom_after c.args.rom (c.loop-made.made + c.step_on-passed.result.steps) c.args.debugger.now.machine.processor c.processor.result.now c.requires.rom
    (c.processor.ensures ∙ ap (λ (m : MachineState). m.processor) c.machine.ensures ∙ ap (λ (d : DebuggerState). d.machine.processor) passed.run)
