use Rattle.std.proofs.Common.{ℕ, ap, ◌∙◌}
use Rattle.std.specs.Fn.{iterate}
use Rattle.memory_map.specs.State.{BusState}
use Rattle.memory_map.specs.BusRules.{bus_rules}
use Rattle.memory_map.specs.Ticks.{tick}
use Rattle.sm83_processor.specs.Steps.{step_of}
use Rattle.machine.specs.Sent.{sent_in_cycles, untimed}
use Rattle.machine.proofs.StepParts.{by_parts, sent_by_parts, stepped_by_parts}
use Rattle.machine.proofs.watched.step_by_parts.Goals as goal

pub returns-clause-after : goal.returns-clause-after
returns-clause-after c =
    let p = c.args.processor in
    let step = c.step-stepped in
    by_parts p step.new.self c.pass.new.self step.result
    (step.ensures.after ∙ ap (λ (b : BusState). (step_of (untimed bus_rules) (record p { memory = b })).after) c.of.ensures)
    (step.ensures.stepped ∙ ap (λ (b : BusState). (step_of (untimed bus_rules) (record p { memory = b })).stepped) c.of.ensures)
    (c.pass.ensures ∙ ap (λ (n : ℕ). iterate tick n c.into_bus-bus.result) c.from.ensures ∙ ap (iterate tick step.result.cycles) c.into_bus-bus.ensures)

pub returns-clause-stepped : goal.returns-clause-stepped
returns-clause-stepped c =
    let p = c.args.processor in
    stepped_by_parts p c.step-stepped.result
    (c.step-stepped.ensures.stepped ∙ ap (λ (b : BusState). (step_of (untimed bus_rules) (record p { memory = b })).stepped) c.of.ensures)

pub returns-clause-sent : goal.returns-clause-sent
returns-clause-sent c =
    let p = c.args.processor in
    let step = c.step-stepped in
    sent_by_parts p step.new.self step.result _
    (step.ensures.after ∙ ap (λ (b : BusState). (step_of (untimed bus_rules) (record p { memory = b })).after) c.of.ensures)
    (step.ensures.stepped ∙ ap (λ (b : BusState). (step_of (untimed bus_rules) (record p { memory = b })).stepped) c.of.ensures)
    (c.byte_sent-sent.ensures ∙ ap (sent_in_cycles step.result.cycles) (c.serial.ensures ∙ ap (λ (b : BusState). b.serial.serial) c.into_bus-bus.ensures))
