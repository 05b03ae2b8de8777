use Rattle.std.proofs.Common.{◌≡◌, ◌++◌, ◌-◌, ◌*◌, length, take}
use Rattle.std.specs.List.{flat_map}
use Rattle.std.specs.Int.{w16, w32, to_le_bytes}
use lib.ListN.{replicate}
use Rattle.input_entries.specs.declared.StoredEntry.{StoredEntry}
use Rattle.recording.specs.Format.{list_magic}
use Rattle.recording.proofs.format.list_sector.Given as goal

abbrev pub invariant-loop-i : goal.invariant-loop-i
invariant-loop-i l = record {
  bytes : l.sector ≡ list_magic ++ to_le_bytes w32 l.number ++ to_le_bytes w16 (length l.entries) ++ flat_map (λ (x : StoredEntry). x.code) (take l.i l.entries) ++ replicate (502 - 6 * l.i) 0;
  size : length (flat_map (λ (x : StoredEntry). x.code) (take l.i l.entries)) ≡ 6 * l.i;
}
