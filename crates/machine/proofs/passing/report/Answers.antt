use Rattle.std.proofs.Common.{sym, ap, ◌∙◌, refl}
use Rattle.memory_map.specs.BusRules.{bus_rules}
use Rattle.sm83_processor.specs.declared.step.Stepped.{Stepped}
use Rattle.sm83_processor.proofs.FastSteps.{fast_fetched, fast_reported}
use Rattle.machine.proofs.passing.report.Goals as goal

pub returns-clause-kind : goal.returns-clause-kind
returns-clause-kind c =
    let p = c.args.processor.now in
    sym (ap (λ (s : Stepped). s.kind)
    (fast_reported bus_rules c.read_three.new.bytes c.length_of_opcode-ran.result _ p c.requires (c.read_three.ensures ∙ fast_fetched bus_rules p c.requires) c.length_of_opcode-ran.ensures refl))
