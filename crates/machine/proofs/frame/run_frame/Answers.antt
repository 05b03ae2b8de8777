use Rattle.memory_map.specs.BusRules.{bus_rules}
use Rattle.machine.proofs.Frames.{steps_until-done}
use Rattle.machine.proofs.frame.run_frame.Goals as goal

pub returns-clause-after : goal.returns-clause-after
returns-clause-after c = (steps_until-done bus_rules _ _ _ _ c.loop-passed.invariant.run c.loop-passed-test.false).0

pub returns-clause-overrun : goal.returns-clause-overrun
returns-clause-overrun c = (steps_until-done bus_rules _ _ _ _ c.loop-passed.invariant.run c.loop-passed-test.false).1
