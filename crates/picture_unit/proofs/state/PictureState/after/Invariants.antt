use Rattle.std.proofs.Common.{◌≡◌}
use Rattle.picture_unit.specs.Picture.{IsLegalPicture}
use Rattle.picture_unit.specs.LatePicture.{state_after}
use Rattle.picture_unit.proofs.state.PictureState.after.Given as goal

abbrev pub invariant-loop-cycle : goal.invariant-loop-cycle
invariant-loop-cycle l = record { legal : IsLegalPicture l.state; now : l.state ≡ state_after l._cycle l.fn.self }
