-- A run whose machine becomes another one.
use Rattle.std.specs.Prelude.{ℕ, ◌==◌, ◌&&◌, Bool, List, [], length, take, if◌then◌else◌}
use Rattle.std.specs.List.{list_all}
use Rattle.std.specs.Str.{bytes_eq}
use Rattle.cartridge.specs.Header.{ram_length_of}
use Rattle.machine.specs.Machine.{MachineState, powered}
use Rattle.snapshot.specs.Encoding.{snapshot_length}
use Rattle.snapshot.specs.Reading.{machine_in}
use Rattle.snapshot.specs.Table.{is_legal, table_of}
use Rattle.state_header.specs.States.{header_length, header_of, snapshot_in}
use Rattle.debugging.specs.Run.{RunState, processor_of}

-- with this machine; none of its instructions are kept, so the history is empty then
abbrev pub with_machine : MachineState → RunState → RunState
with_machine m r = record r { debugger = record r.debugger { machine = m; history = [] } }

-- the power switch, off and on
abbrev pub after_power : RunState → RunState
after_power r = with_machine (powered r.debugger.machine) r

-- ---- a machine that is given as its snapshot, or as its state

abbrev pub rom_of : RunState → List ℕ
rom_of r = (processor_of r).memory.banks.rom

-- as long as the snapshots of this cartridge, and each field legal
abbrev pub is_snapshot : (rom bytes : List ℕ) → Bool
is_snapshot rom bytes = length bytes == snapshot_length (ram_length_of rom) && list_all (λ field. is_legal field bytes) (table_of rom)

-- the header of this cartridge, and a snapshot
abbrev pub is_state : (rom bytes : List ℕ) → Bool
is_state rom bytes = bytes_eq (take header_length bytes) (header_of rom) && is_snapshot rom (snapshot_in bytes)

-- all n bytes are there, and they are a state of the cartridge
abbrev pub is_given : ℕ → List ℕ → RunState → Bool
is_given n bytes r = length bytes == n && is_state (rom_of r) bytes

-- the machine of this snapshot
abbrev pub restored : List ℕ → RunState → RunState
restored bytes r = with_machine (machine_in (rom_of r) bytes) r

-- if it is one of the cartridge
abbrev pub after_snapshot : List ℕ → RunState → RunState
after_snapshot bytes r = if is_snapshot (rom_of r) bytes then restored bytes r else r
