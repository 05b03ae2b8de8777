-- What the window counter counts, which a public function states: Pan Docs, "Window", "Window rendering criteria".
use Rattle.std.specs.Prelude.{◌≡◌, ℕ, ◌+◌, ◌%◌, Bool, true, ◌&&◌, List, [], ◌∷◌, if◌then◌else◌}
use Rattle.picture_lines.specs.Pixel.{is_window_drawn}
use Rattle.picture_unit.specs.declared.state.PictureState.{PictureState}
use Rattle.picture_unit.specs.Picture.{PictureAndRequests, is_on, advanced, entered, draws, line_registers, tick}
use Rattle.picture_unit.specs.Registers.{register_written}

-- an M-cycle, or a write of a register
pub data Event : Type 0 where
  Cycle : Event
  Write : (address value : ℕ) → Event

abbrev pub after : List Event → PictureAndRequests → PictureAndRequests
after [] d = d
after (Cycle ∷ events) d = after events (tick d)
after (Write address value ∷ events) d = after events (register_written address value d)

-- the next M-cycle draws a line with the window on it; it does so at most once a line
abbrev pub draws_window : PictureState → Bool
draws_window p = let next = entered (advanced p) in draws next && is_window_drawn (line_registers next)

-- on how many lines the window is drawn
abbrev pub window_lines : List Event → PictureAndRequests → ℕ
window_lines [] d = 0
window_lines (Cycle ∷ events) d = (if draws_window d.picture.state then 1 else 0) + window_lines events (tick d)
window_lines (Write address value ∷ events) d = window_lines events (register_written address value d)

-- the next M-cycle is the first of a frame
pub record EndsFrame (p : PictureState) : Type 0 where
  pub line : p.ly ≡ 153
  pub m_cycle : p.m_cycle ≡ 113

-- a picture unit that is on stays on, and no M-cycle begins another frame
abbrev pub StayInFrame : List Event → PictureAndRequests → Type 0
StayInFrame [] d = Unit {0}
StayInFrame (Cycle ∷ events) d = (EndsFrame d.picture.state → ⊥) × StayInFrame events (tick d)
StayInFrame (Write address value ∷ events) d =
    let next = register_written address value d in (is_on next.picture.state ≡ true) × StayInFrame events next

-- The window counter is 0 when a frame begins, and within a frame it is the number of the lines on which the window was drawn, modulo
-- 256.
pub record WindowCounterCountsLines : Type 0 where
  pub begins : (d : PictureAndRequests) → is_on d.picture.state ≡ true → EndsFrame d.picture.state → (tick d).picture.state.window_counter ≡ 0
  pub counts : (events : List Event) (d : PictureAndRequests) →
      is_on d.picture.state ≡ true → d.picture.state.window_counter ≡ 0 → StayInFrame events d →
      (after events d).picture.state.window_counter ≡ window_lines events d % 256
