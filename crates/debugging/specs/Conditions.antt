-- Which condition of a run holds before its next step.
use Rattle.std.specs.Prelude.{ℕ, suc, Bool, List, [], ◌∷◌, if◌then◌else◌}
use Rattle.std.specs.List.{list_any}
use Rattle.memory_map.specs.State.{BusState}
use Rattle.memory_map.specs.Bus.{peeked}
use Rattle.sm83_processor.specs.declared.processor.Processor.{Processor}
use Rattle.debugging.specs.declared.order.Condition.{Condition}
use Rattle.debugging.specs.declared.order.Condition.TheVariants.{At, Runs, Reads, Writes, Changes}
use Rattle.debugging.specs.Accesses.{is_reading, is_writing}
use Rattle.debugging.specs.Run.{is_before, is_changed, is_place}

-- in a run that began with this memory: a change is one of the byte that was shown then
abbrev pub holds : (began : BusState) → Processor BusState → Condition → Bool
holds began p (At place) = is_place p place
holds began p (Runs opcode) = is_before opcode p
holds began p (Reads span) = is_reading span p
holds began p (Writes span) = is_writing span p
holds began p (Changes address) = is_changed address (peeked began address) p

-- one of them holds
abbrev pub is_met : (began : BusState) → List Condition → Processor BusState → Bool
is_met began conditions p = list_any (holds began p) conditions

-- the number of the first item for which this holds, from 1
abbrev pub number_of : {A : Type 0} → (A → Bool) → List A → ℕ
number_of is_it [] = 0
number_of is_it (first ∷ rest) = if is_it first then 1 else suc (number_of is_it rest)
