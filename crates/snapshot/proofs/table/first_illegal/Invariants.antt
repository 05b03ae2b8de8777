use Rattle.std.proofs.Common.{◌≡◌, ◌<◌, ℕ, true, get_or}
use Rattle.snapshot.specs.declared.field.SnapshotField.{SnapshotField}
use Rattle.snapshot.specs.Table.{is_legal}
use Rattle.snapshot.proofs.table.first_illegal.Given as goal

abbrev pub invariant-loop-field : goal.invariant-loop-field
invariant-loop-field l = (k : ℕ) (d : SnapshotField) → k < l.field-index → is_legal (get_or l.fields k d) l.encoded ≡ true
