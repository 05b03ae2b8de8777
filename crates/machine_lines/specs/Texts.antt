-- What is told of a machine.
use Rattle.std.specs.Prelude.{ℕ, zero, suc, ◌+◌, ◌*◌, ◌/◌, ◌%◌, ◌==◌, List, [], ◌++◌, codes, decimal, length, if◌then◌else◌}
use Rattle.exact_text.specs.Hex.{byte_text, word_text}
use Rattle.machine.specs.Machine.{MachineState}
use Rattle.debugger.specs.Listing.{byte_after}

-- how many follow
abbrev pub count_line : List ℕ → ℕ → List ℕ
count_line word count = word ++ (codes " " ++ (decimal count ++ codes "\n"))

-- the bytes of n addresses from one on, a space before each; addresses wrap around after FFFF
unfoldable pub bytes_from : MachineState → ℕ → ℕ → List ℕ
bytes_from m address zero = []
bytes_from m address (suc n) = codes " " ++ (byte_text (byte_after m address 0) ++ bytes_from m ((address + 1) % 65536) n)

abbrev pub memory_line : MachineState → ℕ → ℕ → List ℕ
memory_line m address n = word_text address ++ (bytes_from m address n ++ codes "\n")

-- k lines of sixteen bytes
unfoldable pub full_lines : MachineState → ℕ → ℕ → List ℕ
full_lines m address zero = []
full_lines m address (suc k) = memory_line m address 16 ++ full_lines m ((address + 16) % 65536) k

-- n bytes from an address on, sixteen a line, and fewer in the last one
abbrev pub memory_text : MachineState → ℕ → ℕ → List ℕ
memory_text m address n =
    full_lines m address (n / 16) ++ (if n % 16 == 0 then [] else memory_line m ((address + n / 16 * 16) % 65536) (n % 16))

-- how many bytes a state has, and its bytes
abbrev pub state_text : List ℕ → List ℕ
state_text bytes = count_line (codes "state") (length bytes) ++ bytes
