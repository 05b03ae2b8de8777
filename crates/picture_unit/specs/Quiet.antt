-- M-cycles in which the picture unit requests nothing, and in which the frame does not end.
use Rattle.std.specs.Prelude.{◌≡◌, ℕ, ◌+◌, ◌<◌, true, false, []}
use Rattle.picture_unit.specs.declared.state.PictureState.{PictureState}
use Rattle.picture_unit.specs.Picture.{PictureUnit, IsLegalPicture, is_on, ticks}
use Rattle.picture_unit.specs.Laws.{frame_cycle}

-- A picture unit without VRAM, OAM and rows: neither what it requests nor the state that it comes to depends on these.
abbrev pub bare : PictureState → PictureUnit
bare p = record { state = p; vram = []; oam = []; rows = [] }

-- In the next n M-cycles, if any, nothing is requested, and the frame does not end.
pub record AreQuiet (n : ℕ) (p : PictureState) : Type 0 where
  pub legal : 0 < n → IsLegalPicture p
  pub on : 0 < n → is_on p ≡ true
  pub frame : 0 < n → frame_cycle p + n < 17556
  pub vblank : 0 < n → (ticks n (bare p)).vblank ≡ false
  pub stat : 0 < n → (ticks n (bare p)).stat ≡ false
