use Rattle.std.proofs.Common.{◌∙◌, arith}
use Rattle.memory_map.specs.BusRules.{bus_rules}
use Rattle.machine.proofs.StepsLeft.{none_left}
use Rattle.machine.proofs.steps.run_steps.Goals as goal

pub returns : goal.returns
returns c = none_left bus_rules c.loop-left.left c.loop-left.processor (omega (arith, c.loop-left-test.false)) ∙ c.loop-left.invariant
