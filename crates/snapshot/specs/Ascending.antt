-- Fields by offset.
use Rattle.std.specs.Prelude.{ℕ, ◌<◌, ◌≤◌, List, length, slice_index_or}
use Rattle.snapshot.specs.declared.field.SnapshotField.{SnapshotField}

-- no field begins before an earlier one
pub record IsAscending (fields : List SnapshotField) : Type 0 where
  pub order : (i j : ℕ) (d : SnapshotField) → i ≤ j → j < length fields → (slice_index_or fields i d).offset ≤ (slice_index_or fields j d).offset
