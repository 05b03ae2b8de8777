use Rattle.std.proofs.Common.{◌≡◌, ◌<◌, ◌≤◌, ◌-◌}
use Rattle.memory_map.specs.BusRules.{bus_rules}
use Rattle.memory_map.specs.Quiet.{IsCalm}
use Rattle.sm83_processor.specs.FastStep.{IsFast}
use Rattle.machine.specs.Machine.{steps_until}
use Rattle.machine.specs.PollingLoop.{IsPoll}
use Rattle.machine.proofs.polling_loop.pass_laps_of.Given as goal

abbrev pub invariant-loop-left : goal.invariant-loop-left
invariant-loop-left l = record {
  run : steps_until bus_rules 17556 (l.end - l.left) l.processor ≡ steps_until bus_rules 17556 l.fn.passed l.fn.processor;
  start : l.fn.passed ≤ l.end - l.left;
  below : l.end - l.left < 17556;
  within : l.left ≤ l.end;
  end : l.end ≤ 17556;
  calm : IsCalm l.left l.processor.memory;
  fast : IsFast bus_rules l.processor;
  poll : IsPoll l.fn.poll l.processor.memory l.processor.registers.pc;
}

abbrev pub decreases-loop-left : goal.decreases-loop-left
decreases-loop-left l = l.left
