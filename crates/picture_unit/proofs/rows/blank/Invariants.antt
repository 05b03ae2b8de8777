use Rattle.std.proofs.Common.{◌≡◌, length, take}
use Rattle.std.specs.Prelude.{replicate}
use Rattle.picture_unit.proofs.rows.blank.Given as goal

abbrev pub invariant-loop-row : goal.invariant-loop-row
invariant-loop-row l = record {
  size : length l.rows ≡ length l.fn.rows;
  blank : take l.row-index l.rows ≡ replicate l.row-index (replicate 160 0);
}
