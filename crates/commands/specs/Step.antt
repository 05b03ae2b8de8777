-- What `step_line` writes.
use Rattle.std.specs.Prelude.{ℕ, List}
use Rattle.memory_map.specs.BusRules.{bus_rules}
use Rattle.machine.specs.Machine.{start}
use Rattle.sm83_processor.specs.Steps.{after_steps}
use Rattle.debugger.specs.Registers.{register_line}

-- the line of the machine after so many steps from power-on
unfoldable pub line_after : List ℕ → ℕ → List ℕ
line_after rom count = register_line (after_steps bus_rules count (start rom).processor)
