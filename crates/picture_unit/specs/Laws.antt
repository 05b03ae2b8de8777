-- Laws of the picture unit that public functions state.
use Rattle.std.specs.Prelude.{◌≡◌, ◌≢◌, ℕ, ◌+◌, ◌*◌, ◌%◌, ◌<◌, Bool, true, ◌||◌, [], length, slice_index, slice_index_or}
use Rattle.std.specs.Fn.{iterate}
use Rattle.picture_lines.specs.Pixel.{pixel}
use Rattle.picture_unit.specs.declared.state.PictureState.{PictureState}
use Rattle.picture_unit.specs.Picture.{PictureUnit, IsLegalPicture, is_on, line_registers, line_drawn, tick, ticks}

-- What n M-cycles do does not depend on the requests that were pending, and they are added to
-- these.
abbrev pub PictureRequestsAreAdded : Type 0
PictureRequestsAreAdded = (vblank stat : Bool) (n : ℕ) (s : PictureUnit) →
    iterate tick n (record { picture = s; vblank = vblank; stat = stat })
    ≡ record {
      picture = (ticks n s).picture;
      vblank = vblank || (ticks n s).vblank;
      stat = stat || (ticks n s).stat;
    }

-- the current line has the shade of its pixel in each column, and the other rows are as before
pub record HoldsItsPixels (old new : PictureUnit) : Type 0 where
  pub drawn : (x : ℕ) → x < 160 →
      slice_index (slice_index_or new.rows old.state.ly []) x
      ≡ pixel (line_registers old.state) old.vram old.oam x
  pub others : (y : ℕ) → y ≢ old.state.ly →
      slice_index_or new.rows y [] ≡ slice_index_or old.rows y []

abbrev pub DrawnLineHoldsItsPixels : Type 0
DrawnLineHoldsItsPixels =
    (s : PictureUnit) → s.state.ly < length s.rows → HoldsItsPixels s (line_drawn s)

-- the M-cycle of the frame
abbrev pub frame_cycle : PictureState → ℕ
frame_cycle p = 114 * p.ly + p.m_cycle

abbrev pub FrameHas17556Cycles : Type 0
FrameHas17556Cycles = (n : ℕ) (s : PictureUnit) → is_on s.state ≡ true → IsLegalPicture s.state →
    frame_cycle (ticks n s).picture.state ≡ (frame_cycle s.state + n) % 17556
