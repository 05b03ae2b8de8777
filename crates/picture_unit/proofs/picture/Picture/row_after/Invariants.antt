use Rattle.std.proofs.Common.{◌≡◌, ◌<◌, Some}
use Rattle.std.specs.Prelude.{All, slice_get}
use Rattle.picture_unit.specs.Picture.{IsLegalPicture, ticks}
use Rattle.picture_unit.proofs.picture.Picture.row_after.Given as goal

abbrev pub invariant-loop-cycle : goal.invariant-loop-cycle
invariant-loop-cycle l = record {
  legal : IsLegalPicture l.state;
  now : l.state ≡ (ticks l._cycle l.fn.self).picture.state;
  row : slice_get (ticks l._cycle l.fn.self).picture.rows l.y ≡ Some l.row;
  shades : All (λ shade. shade < 4) l.row;
}
