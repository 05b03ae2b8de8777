use Rattle.std.proofs.Common.{◌≡◌, ◌++◌, ◌-◌, ◌*◌, length, take}
use Rattle.std.specs.List.{flat_map}
use Rattle.std.specs.Int.{w16, to_le_bytes}
use lib.ListN.{replicate}
use Rattle.log_format.specs.Log.{log_magic}
use Rattle.log_format.specs.declared.root.Version.TheVariants.{Two}
use Rattle.input_entries.specs.declared.StoredEntry.{StoredEntry}
use Rattle.log_format.proofs.format.log_sector.Given as goal

abbrev pub invariant-loop-i : goal.invariant-loop-i
invariant-loop-i l = record {
  bytes : l.sector ≡ log_magic Two ++ to_le_bytes w16 l.index ++ to_le_bytes w16 (length l.entries) ++ flat_map (λ (x : StoredEntry). x.code) (take l.i l.entries) ++ replicate (504 - 6 * l.i) 0;
  size : length (flat_map (λ (x : StoredEntry). x.code) (take l.i l.entries)) ≡ 6 * l.i;
}
