-- The picture unit between two entries, an entry being that to a line, to mode 3 or to mode 0.
use Rattle.std.specs.Prelude.{◌≡◌, ℕ, zero, suc, ◌+◌, ◌-◌, ◌%◌, true, ◌&&◌, ◌||◌, ◌==◌, nat_le, nat_lt, if◌then◌else◌}
use Rattle.picture_unit.specs.declared.state.PictureState.{PictureState}
use Rattle.picture_unit.specs.declared.state.PictureRequests.{PictureRequests}
use Rattle.picture_unit.specs.Picture.{PictureUnit, PictureAndRequests, is_on, stat_signal, evaluated}

-- how many M-cycles the next entry is away
unfoldable pub next_entry : PictureState → ℕ
next_entry p =
    if nat_le 144 p.ly || nat_le 63 p.m_cycle then 114 - p.m_cycle
    else if nat_lt p.m_cycle 20 then 20 - p.m_cycle
    else 63 - p.m_cycle

-- How many M-cycles the next one is away that may change more than the M-cycle of the line. From mode 3 on that
-- is the next line's first while STAT enables no mode: the line is drawn, and the signal stays as it is.
unfoldable pub next_change : PictureState → ℕ
next_change p = if p.stat % 64 == 0 && nat_le 20 p.m_cycle then 114 - p.m_cycle else next_entry p

unfoldable pub later : ℕ → PictureAndRequests → PictureAndRequests
later n d = record d {
  picture = record d.picture { state = record d.picture.state { m_cycle = d.picture.state.m_cycle + n } };
}

-- n M-cycles of which each changes at most the M-cycle and the STAT signal
unfoldable pub skipped : ℕ → PictureAndRequests → PictureAndRequests
skipped zero d = d
skipped (suc n) d = evaluated (later (suc n) d)

-- a picture unit that has requested these interrupts
abbrev pub with_requests : PictureRequests → PictureUnit → PictureAndRequests
with_requests requests s = record { picture = s; vblank = requests.vblank; stat = requests.stat }

-- The STAT signal was evaluated as it is now, so that it does not rise before the next change.
abbrev pub IsSteady : PictureAndRequests → Type 0
IsSteady d = is_on d.picture.state ≡ true → stat_signal d.picture.state ≡ d.picture.state.signal
