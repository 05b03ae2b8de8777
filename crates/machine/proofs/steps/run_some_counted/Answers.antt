use Rattle.std.proofs.Common.{◌-◌, arith}
use Rattle.memory_map.specs.BusRules.{bus_rules}
use Rattle.machine.proofs.StepsLeft.{one_fewer}
use Rattle.machine.proofs.steps.run_some_counted.Goals as goal

pub returns-clause-run : goal.returns-clause-run
returns-clause-run c = one_fewer bus_rules c.args.left (c.args.left - 1) c.args.processor.now c.step.new.self (omega (arith, c.requires)) c.step.ensures.after
