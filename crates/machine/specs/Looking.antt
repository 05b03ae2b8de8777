-- What a machine shows, as bytes.
use Rattle.std.specs.Prelude.{ℕ, ◌+◌, ◌-◌, ◌/◌, ◌%◌, List, [], map, slice_index, slice_index_or}
use Rattle.std.specs.List.{range_with_len}
use Rattle.memory_map.specs.Bus.{peeked}
use Rattle.machine.specs.Machine.{MachineState}

-- 144 rows of 160 shades, row by row, with 0 the darkest: where a shade is 3, the byte is 0
unfoldable pub shades_of : List (List ℕ) → List ℕ
shades_of rows = map (λ k. 3 - slice_index (slice_index_or rows (k / 160) []) (k % 160)) (range_with_len 0 23040)

-- what reading these addresses gives if neither a mode nor a copy closes anything; after FFFF comes 0000
abbrev pub bytes_from : MachineState → (address count : ℕ) → List ℕ
bytes_from m address count = map (λ k. peeked m.processor.memory ((address + k) % 65536)) (range_with_len 0 count)
