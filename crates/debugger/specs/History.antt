-- What a debugger holds: the machine, and the last instructions that it ran, the oldest first.
use Rattle.std.specs.Prelude.{ℕ, ◌≤◌, List, ◌++◌, length}
use Rattle.circular_buffer.specs.Buffer.{keep_last}
use Rattle.memory_map.specs.BusRules.{bus_rules}
use Rattle.machine.specs.Machine.{MachineState}
use Rattle.machine.specs.FastRuns.{instructions_in}
use Rattle.sm83_processor.specs.Steps.{after_steps}
use Rattle.sm83_processor.specs.declared.step.Executed.{Executed}

pub record DebuggerState : Type 0 where
  pub machine : MachineState
  -- the most instructions that are kept
  pub size : ℕ
  pub history : List Executed

-- no more are held than are kept
abbrev pub HoldsAtMost : ℕ → List Executed → Type 0
HoldsAtMost size history = length history ≤ size

-- the debugger after n steps of its machine
abbrev pub after_run : ℕ → DebuggerState → DebuggerState
after_run n d = record {
  machine = record d.machine { processor = after_steps bus_rules n d.machine.processor };
  size = d.size;
  history = keep_last d.size (d.history ++ instructions_in bus_rules n d.machine.processor);
}
