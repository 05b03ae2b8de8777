-- The lines of `list`: addresses wrap around after FFFF, and each line begins where the last one's instruction ended.
use Rattle.std.specs.Prelude.{ℕ, zero, suc, List, [], ◌++◌, ◌+◌, ◌%◌}
use Rattle.opcode_table.specs.Listing.{list_line}
use Rattle.opcode_table.specs.Timing.{decoded_of}
use Rattle.memory_map.specs.Bus.{peeked}
use Rattle.machine.specs.Machine.{MachineState}

-- the byte k places after an address, whatever closes it
abbrev pub byte_after : MachineState → ℕ → ℕ → ℕ
byte_after m address k = peeked m.processor.memory ((address + k) % 65536)

abbrev pub line_at : MachineState → ℕ → List ℕ
line_at m address = list_line address (byte_after m address 0) (byte_after m address 1) (byte_after m address 2)

-- the address after the instruction at an address
abbrev pub address_after : MachineState → ℕ → ℕ
address_after m address =
    (address + (decoded_of (byte_after m address 0) (byte_after m address 1) (byte_after m address 2)).length) % 65536

unfoldable pub lines_from : MachineState → ℕ → ℕ → List ℕ
lines_from m address zero = []
lines_from m address (suc n) = line_at m address ++ lines_from m (address_after m address) n
