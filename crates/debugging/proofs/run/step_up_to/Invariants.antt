use Rattle.std.proofs.Common.{◌≡◌, ◌<◌, ◌≤◌, ◌-◌, ◌*◌, false}
use Rattle.memory_map.specs.BusRules.{bus_rules}
use Rattle.machine.specs.Machine.{cycles_of_steps}
use Rattle.debugger.specs.Run.{HasPassed}
use Rattle.debugging.specs.Quiet.{is_any}
use Rattle.debugging.proofs.run.step_up_to.Given as goal

abbrev pub invariant-loop-made : goal.invariant-loop-made
invariant-loop-made g l = record {
  run : HasPassed (λ p. is_any l.aims p ≡ false) l.made l.fn.debugger l.debugger;
  here : 0 < l.made → is_any l.aims l.debugger.machine.processor ≡ false;
  due : l.made < l.limit;
  took : l.cycles ≡ cycles_of_steps bus_rules l.made l.fn.debugger.machine.processor;
  few : l.cycles ≤ 6 * l.made;
}

abbrev pub decreases-loop-made : goal.decreases-loop-made
decreases-loop-made g l = l.limit - l.made
