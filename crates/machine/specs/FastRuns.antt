-- Fast steps of which each instruction is told, up to one before which a watch ends them.
use Rattle.std.specs.Prelude.{◌≡◌, ℕ, zero, suc, ◌<◌, List, [], ◌∷◌, ◌++◌, take}
use Rattle.memory_map.specs.State.{BusState}
use Rattle.memory_map.specs.BusRules.{bus_rules}
use Rattle.sm83_processor.specs.Rules.{Rules}
use Rattle.sm83_processor.specs.Steps.{step_of, after_steps}
use Rattle.sm83_processor.specs.declared.processor.Processor.{Processor}
use Rattle.sm83_processor.specs.declared.step.Executed.{Executed}
use Rattle.sm83_processor.specs.declared.step.StepKind.{StepKind}
use Rattle.sm83_processor.specs.declared.step.StepKind.TheVariants.{Dispatch, Wait, Ran}
use Rattle.machine.specs.Machine.{cycles_of_steps}

-- the instruction of a step; a dispatch and a wait are none
abbrev pub instruction_in : StepKind → List Executed
instruction_in (Dispatch vector) = []
instruction_in Wait = []
instruction_in (Ran seen) = seen ∷ []

-- the instructions of the next n steps, the first of them first
unfoldable pub instructions_in : {M : Type 0} → Rules M → ℕ → Processor M → List Executed
instructions_in rules zero p = []
instructions_in rules (suc n) p = instruction_in (step_of rules p).stepped.kind ++ instructions_in rules n (step_of rules p).after

-- n steps of so many M-cycles led from one processor to another, these instructions ran in them, and a fact held before each of them but the first
pub record HasPassed (passes : Processor BusState → Type 0) (n cycles : ℕ) (old new : Processor BusState) (instructions : List Executed) : Type 0 where
  pub after : new ≡ after_steps bus_rules n old
  pub took : cycles ≡ cycles_of_steps bus_rules n old
  pub ran : instructions ≡ instructions_in bus_rules n old
  pub past : (k : ℕ) → 0 < k → k < n → passes (after_steps bus_rules k old)

-- so many steps passed, and the fact holds before the next one unless it is the first; for private functions alone
pub record IsPassing (passes : Processor BusState → Type 0) (n cycles : ℕ) (old new : Processor BusState) (kept : List Executed) : Type 0 where
  pub passed : HasPassed passes n cycles old new (take n kept)
  pub here : 0 < n → passes new
