-- What public clauses see of a `MemoryDevice`.
use Rattle.std.specs.Prelude.{◌≡◌, ℕ, List, [], None, false, vec_capacity}
use Rattle.sector_device.specs.DiskState.{no_fuse}
use Rattle.sector_device.specs.declared.memory.MemoryDevice.{MemoryDevice}
use Rattle.sector_device.specs.Memory.{MemoryState}

abbrev pub memory : MemoryDevice → MemoryState
memory d = record {
  at_start = d.at_start.items;
  recorded = d.recorded.items;
  room = vec_capacity d.recorded;
  fuse = d.fuse;
  blown = d.blown;
  set = d.set;
  asked = d.asked;
  fails_in = d.fails_in;
  keeps = d.keeps;
  faults = d.faults;
}

-- it holds these sectors, with an empty record of this room, this fault count, no call asked for, no fuse and no failing call
abbrev pub IsNewMemory : List (List ℕ) → ℕ → ℕ → MemoryDevice → Type 0
IsNewMemory sectors room faults d =
    memory d ≡ record { at_start = sectors; recorded = []; room = room; fuse = None; blown = false; set = no_fuse; asked = 0; fails_in = 0; keeps = false; faults = faults }
