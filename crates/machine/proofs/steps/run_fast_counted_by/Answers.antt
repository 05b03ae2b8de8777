use Rattle.std.proofs.Common.{◌-◌, arith}
use Rattle.memory_map.specs.BusRules.{bus_rules}
use Rattle.machine.proofs.StepsLeft.{one_fewer}
use Rattle.machine.proofs.steps.run_fast_counted_by.Goals as goal

pub returns-then-not-is_there-clause-run : goal.returns-then-not-is_there-clause-run
returns-then-not-is_there-clause-run g c =
    one_fewer bus_rules c.args.left (c.args.left - 1) c.args.processor.now c.step.new.self (omega (arith, c.requires.some)) c.step.ensures.after
