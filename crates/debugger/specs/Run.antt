-- A run up to a break, or to a step before which a watch ends it.
use Rattle.std.specs.Prelude.{◌≡◌, ℕ, ◌<◌, ◌%◌, Bool, true, List, slice_get, Some}
use Rattle.std.specs.List.{Contains}
use Rattle.memory_map.specs.State.{BusState}
use Rattle.memory_map.specs.BusRules.{bus_rules}
use Rattle.sm83_processor.specs.Steps.{after_steps}
use Rattle.sm83_processor.specs.declared.processor.Processor.{Processor}
use Rattle.debugger.specs.declared.stop.Stop.{Stop}
use Rattle.debugger.specs.declared.stop.Stop.TheVariants.{Break, Limit}
use Rattle.debugger.specs.History.{DebuggerState, after_run}

-- PC after n steps
abbrev pub pc_after : ℕ → DebuggerState → ℕ
pc_after n d = (after_steps bus_rules n d.machine.processor).registers.pc

-- this many steps were made, and a fact held before each of them but the first
pub record HasPassed (passes : Processor BusState → Type 0) (steps : ℕ) (old new : DebuggerState) : Type 0 where
  pub run : new ≡ after_run steps old
  pub past : (k : ℕ) → 0 < k → k < steps → passes (after_steps bus_rules k old.machine.processor)

-- the next step does not begin at a break
abbrev pub IsElsewhere : List ℕ → Processor BusState → Type 0
IsElsewhere breaks p = ¬ (Contains breaks p.registers.pc)

-- a step was due that was not the first and would have begun at the break
pub record HasMet (breaks : List ℕ) (limit pc : ℕ) (old new : DebuggerState) : Type 0 where
  pub steps : ℕ
  pub some : 0 < steps
  pub due : steps < limit
  pub ran : HasPassed (IsElsewhere breaks) steps old new
  pub here : pc ≡ pc_after steps old
  pub met : Contains breaks pc

-- why a run stopped
abbrev pub IsStop : List ℕ → ℕ → DebuggerState → DebuggerState → Stop → Type 0
IsStop breaks limit old new (Break pc) = HasMet breaks limit pc old new
IsStop breaks limit old new Limit = HasPassed (IsElsewhere breaks) limit old new

-- the low byte of each break is marked
abbrev pub AreMarked : List Bool → List ℕ → Type 0
AreMarked marks breaks = (at : ℕ) → Contains breaks at → slice_get marks (at % 256) ≡ Some true
