use Rattle.std.proofs.Common.{◌≡◌, ◌*◌, length, take}
use Rattle.picture_unit.specs.Pgm.{values_text}
use Rattle.picture_unit.proofs.pgm.put_text.Given as goal

abbrev pub invariant-loop-part : goal.invariant-loop-part
invariant-loop-part l = record {
  size : length l.text ≡ 320;
  written : take (16 * l.part) l.text ≡ values_text 0 (take (8 * l.part) l.row);
}
