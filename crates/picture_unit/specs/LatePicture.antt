-- The picture unit, which is given its M-cycles late.
use Rattle.std.specs.Prelude.{◌≡◌, ℕ, ◌+◌, ◌-◌, ◌*◌, ◌/◌, ◌%◌, ◌<◌, ◌≤◌, Bool, false, ◌&&◌, ◌==◌, nat_lt, Option, Some, None, if◌then◌else◌}
use Rattle.picture_lines.specs.Bits.{has_bit}
use Rattle.picture_lines.specs.declared.registers.LineRegisters.{LineRegisters}
use Rattle.picture_unit.specs.declared.state.PictureState.{PictureState}
use Rattle.picture_unit.specs.Picture.{PictureUnit, IsWhole, is_on, advanced, entered, draws, line_registers, ticks}
use Rattle.picture_unit.specs.Laws.{frame_cycle}
use Rattle.picture_unit.specs.Quiet.{bare, AreQuiet}

-- n M-cycles on
abbrev pub state_after : ℕ → PictureState → PictureState
state_after n p = (ticks n (bare p)).picture.state

-- as it is at an M-cycle of the frame
abbrev pub up_to : ℕ → PictureUnit → PictureUnit
up_to now s = (ticks (now - frame_cycle s.state) s).picture

-- the M-cycle of the frame by what was counted: while the LCD is off the count runs on and means nothing
abbrev pub moment : ℕ → PictureUnit → ℕ
moment counted s = if is_on s.state then counted else frame_cycle s.state

-- What is known of a picture unit that was given its M-cycles up to an earlier one: those since are quiet, and so are those
-- before `quiet_until`.
pub record IsLate (now quiet_until : ℕ) (s : PictureUnit) : Type 0 where
  pub whole : IsWhole s.state s.oam s.rows
  pub late : frame_cycle s.state ≤ now
  pub passed : AreQuiet (now - frame_cycle s.state) s.state
  pub coming : AreQuiet (quiet_until - now) (up_to now s).state

-- With this M-cycle a source of the STAT signal begins that STAT enables: line LYC,
unfoldable pub begins_line : PictureState → Bool
begins_line p = has_bit p.stat 6 && (p.m_cycle == 0 && p.ly == p.lyc)

-- mode 2,
unfoldable pub begins_mode_2 : PictureState → Bool
begins_mode_2 p = has_bit p.stat 5 && (p.m_cycle == 0 && nat_lt p.ly 144)

-- mode 0. Mode 1 begins with VBlank.
unfoldable pub begins_mode_0 : PictureState → Bool
begins_mode_0 p = has_bit p.stat 3 && (p.m_cycle == 63 && nat_lt p.ly 144)

-- That source begins with none of the M-cycles of the frame after `now` and before `next`.
abbrev pub NoneBefore : (PictureState → Bool) → (now next : ℕ) → PictureState → Type 0
NoneBefore begins now next p = (ly m_cycle : ℕ) → m_cycle < 114 → now < 114 * ly + m_cycle → 114 * ly + m_cycle < next → begins (record p { ly = ly; m_cycle = m_cycle }) ≡ false

-- the same state at another M-cycle of the frame
abbrev pub at_cycle : ℕ → PictureState → PictureState
at_cycle now p = record p { ly = now / 114; m_cycle = now % 114 }

-- what the line is drawn by that the next M-cycle draws, if it draws one
unfoldable pub line_drawn_next : PictureState → Option LineRegisters
line_drawn_next p = if is_on p && draws (entered (advanced p)) then Some (line_registers (entered (advanced p))) else None
