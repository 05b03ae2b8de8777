use Rattle.std.proofs.Common.{◌≡◌}
use Rattle.memory_map.specs.BusRules.{bus_rules}
use Rattle.sm83_processor.specs.Steps.{after_steps}
use Rattle.machine.proofs.steps.run_steps.Given as goal

abbrev pub invariant-loop-left : goal.invariant-loop-left
invariant-loop-left l = after_steps bus_rules l.left l.processor ≡ after_steps bus_rules l.fn.count l.fn.processor

abbrev pub decreases-loop-left : goal.decreases-loop-left
decreases-loop-left l = l.left
