-- Still steps of the processor over the bus, for private functions alone.
use Rattle.std.specs.Prelude.{◌≡◌, ℕ}
use Rattle.std.specs.Fn.{iterate}
use Rattle.memory_map.specs.State.{BusState}
use Rattle.memory_map.specs.BusRules.{bus_rules}
use Rattle.memory_map.specs.Quiet.{AreQuietOn}
use Rattle.memory_map.specs.Ticks.{tick}
use Rattle.sm83_processor.specs.Steps.{Step, step_of, passing}
use Rattle.sm83_processor.specs.FastStep.{IsFast}
use Rattle.sm83_processor.specs.declared.processor.Processor.{Processor}

-- a step, with M-cycles that pass after it
abbrev pub step_then : ℕ → Step BusState → Step BusState
step_then n s = record { after = passing bus_rules n s.after; stepped = s.stepped }

-- the next step is fast, and the memory after it is as it was but for its M-cycles; after quiet M-cycles it is the same step
pub record IsStill (p : Processor BusState) : Type 0 where
  pub fast : IsFast bus_rules p
  pub memory : (step_of bus_rules p).after.memory ≡ iterate tick (step_of bus_rules p).stepped.cycles p.memory
  pub again : (n : ℕ) → AreQuietOn n p.memory → IsFast bus_rules (passing bus_rules n p) → step_of bus_rules (passing bus_rules n p) ≡ step_then n (step_of bus_rules p)
