-- The states that are kept, as the code has them: the snapshot under each number, which is empty where no machine is kept.
use Rattle.std.specs.Prelude.{◌≡◌, ◌<◌, ℕ, List, [], Option, None, Some, slice_index_or}
use Rattle.machine.specs.Machine.{MachineState}
use Rattle.snapshot.specs.Encoding.{encoded}
use Rattle.snapshot.specs.Legal.{IsMachineOf}
use Rattle.machine_lines.specs.KeptStates.{slots, KeptMachine, kept_under}

abbrev pub state_under : List (List ℕ) → ℕ → List ℕ
state_under states number = slice_index_or states number []

-- the snapshot of the machine, or none
abbrev pub IsKeptAs : (rom bytes : List ℕ) → Option MachineState → Type 0
IsKeptAs rom bytes None = bytes ≡ []
IsKeptAs rom bytes (Some m) = IsMachineOf rom m × (encoded m ≡ bytes)

-- under each number the machine that was kept last
abbrev pub AreKept : (rom : List ℕ) → List (List ℕ) → List KeptMachine → Type 0
AreKept rom states kept = (n : ℕ) → n < slots → IsKeptAs rom (state_under states n) (kept_under n kept)
