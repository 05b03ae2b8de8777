-- A processor that waits for many M-cycles, for private functions alone.
use Rattle.std.specs.Prelude.{◌≡◌, ℕ, ◌<◌, min, Option, Some, None}
use Rattle.memory_map.specs.State.{BusState}
use Rattle.memory_map.specs.BusRules.{bus_rules}
use Rattle.sm83_processor.specs.Steps.{step_of, passing, waited}
use Rattle.sm83_processor.specs.declared.processor.Processor.{Processor}

-- each of the next n steps is a wait
abbrev pub Waits : ℕ → Processor BusState → Type 0
Waits n p = (k : ℕ) → k < n → step_of bus_rules (passing bus_rules k p) ≡ waited bus_rules (passing bus_rules k p)

-- the M-cycles to the next event, but not more than are left
abbrev pub within : Option ℕ → ℕ → ℕ
within None left = left
within (Some due) left = min due left
