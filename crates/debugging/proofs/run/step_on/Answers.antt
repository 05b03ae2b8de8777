use Rattle.std.proofs.Common.{◌∙◌, ap, arith, subst, sym}
use Rattle.memory_map.specs.BusRules.{bus_rules}
use Rattle.machine.specs.Machine.{MachineState}
use Rattle.sm83_processor.specs.FastStep.{IsFast}
use Rattle.sm83_processor.specs.declared.step.Stepped.{Stepped}
use Rattle.sm83_processor.proofs.StepCycles.{step-bounds}
use Rattle.debugging.proofs.Runs.{one_cycles}
use Rattle.debugging.proofs.run.step_on.Goals as goal

pub run_watching-requires-clause-fast : goal.run_watching-requires-clause-fast
run_watching-requires-clause-fast g c = subst (λ (m : MachineState). IsFast bus_rules m.processor) c.machine.ensures (c.is_fast.ensures.fast c.if-is_fast.true)

pub returns-then-is_fast-clause-cycles : goal.returns-then-is_fast-clause-cycles
returns-then-is_fast-clause-cycles g c = c.run_watching.ensures.cycles

pub returns-clause-cycles : goal.returns-clause-cycles
returns-clause-cycles g c =
    c.from.ensures ∙ ap (λ (s : Stepped). s.cycles) c.step-stepped.ensures.stepped ∙ sym (one_cycles c.args.debugger.now.machine.processor)

pub returns-clause-few : goal.returns-clause-few
returns-clause-few g c =
    let is = c.from.ensures ∙ ap (λ (s : Stepped). s.cycles) c.step-stepped.ensures.stepped in
    let bounds = step-bounds bus_rules c.args.debugger.now.machine.processor in
    omega (arith, is, bounds.few)

pub returns-clause-run : goal.returns-clause-run
returns-clause-run g c = record { run = c.step-stepped.ensures.debugger; past = λ k some below. absurd (omega (arith, some, below)) }
