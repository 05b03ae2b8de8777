-- The picture unit, M-cycle by M-cycle: Pan Docs, "Rendering", "LCD Status Registers", "LCD
-- Position and Scrolling" and "Interrupt Sources". A line has 20 M-cycles of mode 2, 43 of mode 3
-- and 51 of mode 0, and is drawn whole on its M-cycle 20 (fixed profile).
use Rattle.std.specs.Prelude.{◌≡◌, ℕ, ◌+◌, ◌*◌, ◌/◌, ◌%◌, ◌<◌, List, length, slice_set, All, Bool, true, false, ◌&&◌, ◌||◌, not, ◌==◌, nat_le, nat_lt, if◌then◌else◌, replicate}
use Rattle.std.specs.Fn.{iterate}
use Rattle.picture_lines.specs.Bits.{has_bit}
use Rattle.picture_lines.specs.Pixel.{drawn_row, is_window_drawn}
use Rattle.picture_lines.specs.declared.registers.LineRegisters.{LineRegisters}
use Rattle.picture_unit.specs.declared.state.PictureState.{PictureState}

-- registers and counters, the 8,192 bytes of VRAM, the 160 bytes of OAM, and 144 rows of 160 shades
pub record PictureUnit : Type 0 where
  pub state : PictureState
  pub vram : List ℕ
  pub oam : List ℕ
  pub rows : List (List ℕ)

-- of STAT only bits 6 to 3 are held; a frame has 154 lines of 114 M-cycles; the others are bytes
pub record IsLegalPicture (p : PictureState) : Type 0 where
  pub lcdc : p.lcdc < 256
  pub stat : p.stat ≡ 8 * (p.stat / 8 % 16)
  pub scy : p.scy < 256
  pub scx : p.scx < 256
  pub lyc : p.lyc < 256
  pub bgp : p.bgp < 256
  pub obp0 : p.obp0 < 256
  pub obp1 : p.obp1 < 256
  pub wy : p.wy < 256
  pub wx : p.wx < 256
  pub ly : p.ly < 154
  pub m_cycle : p.m_cycle < 114
  pub window_counter : p.window_counter < 256

-- a picture unit, and whether it has requested the VBlank interrupt (bit 0 of IF) and the STAT
-- interrupt (bit 1)
pub record PictureAndRequests : Type 0 where
  pub picture : PictureUnit
  pub vblank : Bool
  pub stat : Bool

unfoldable pub unrequested : PictureUnit → PictureAndRequests
unrequested s = record { picture = s; vblank = false; stat = false }

-- bit 7 of LCDC
unfoldable pub is_on : PictureState → Bool
is_on p = nat_le 128 p.lcdc

unfoldable pub mode : PictureState → ℕ
mode p =
    if not (is_on p) then 0
    else if nat_le 144 p.ly then 1
    else if nat_lt p.m_cycle 20 then 2
    else if nat_lt p.m_cycle 63 then 3
    else 0

-- one of the sources that STAT enables: bit 6 LY = LYC, bit 5 mode 2, bit 4 mode 1, bit 3 mode 0
unfoldable pub is_source : (stat mode : ℕ) → (is_line : Bool) → Bool
is_source stat mode is_line =
    has_bit stat 6 && is_line
    || has_bit stat 5 && mode == 2
    || has_bit stat 4 && mode == 1
    || has_bit stat 3 && mode == 0

-- the STAT signal
unfoldable pub stat_signal : PictureState → Bool
stat_signal p = is_on p && is_source p.stat (mode p) (p.ly == p.lyc)

-- The STAT signal is evaluated: its rise requests the STAT interrupt.
unfoldable pub evaluated : PictureAndRequests → PictureAndRequests
evaluated d = record d {
  picture = record d.picture { state = record d.picture.state { signal = stat_signal d.picture.state } };
  stat = d.stat || (stat_signal d.picture.state && not d.picture.state.signal);
}

-- the next M-cycle of the line, or the first one of the next line
unfoldable pub advanced : PictureState → PictureState
advanced p =
    if p.m_cycle == 113
    then record p { m_cycle = 0; ly = if p.ly == 153 then 0 else p.ly + 1 }
    else record p { m_cycle = p.m_cycle + 1 }

-- On entry to line 0 the window counter is 0 and WY is not seen; on entry to a line below 144 WY is
-- seen if it is that line.
unfoldable pub entered : PictureState → PictureState
entered p =
    if p.m_cycle == 0
    then record p {
      window_counter = if p.ly == 0 then 0 else p.window_counter;
      seen = (nat_lt 0 p.ly && p.seen) || (nat_lt p.ly 144 && p.wy == p.ly);
    }
    else p

-- the first M-cycle of line 144
unfoldable pub begins_vblank : PictureState → Bool
begins_vblank p = p.m_cycle == 0 && p.ly == 144

-- what the line is drawn by
unfoldable pub line_registers : PictureState → LineRegisters
line_registers p = record {
  lcdc = p.lcdc;
  scy = p.scy;
  scx = p.scx;
  bgp = p.bgp;
  obp0 = p.obp0;
  obp1 = p.obp1;
  wx = p.wx;
  ly = p.ly;
  window_counter = p.window_counter;
  seen = p.seen;
}

-- the window counter after the line was drawn: it grows on the lines on which the window is drawn
unfoldable pub window_counter_after : PictureState → ℕ
window_counter_after p =
    if is_window_drawn (line_registers p) then (p.window_counter + 1) % 256 else p.window_counter

-- the line is drawn
unfoldable pub line_drawn : PictureUnit → PictureUnit
line_drawn s = record s {
  state = record s.state { window_counter = window_counter_after s.state };
  rows = slice_set s.rows s.state.ly (drawn_row (line_registers s.state) s.vram s.oam);
}

unfoldable pub draws : PictureState → Bool
draws p = p.m_cycle == 20 && nat_lt p.ly 144

unfoldable pub drawn : PictureUnit → PictureUnit
drawn s = if draws s.state then line_drawn s else s

-- one M-cycle up to the STAT signal
unfoldable pub moved : PictureAndRequests → PictureAndRequests
moved d =
    let next : PictureState = entered (advanced d.picture.state) in
    record {
      picture = drawn (record d.picture { state = next });
      vblank = d.vblank || begins_vblank next;
      stat = d.stat;
    }

-- one M-cycle; with LCDC bit 7 clear the picture unit stands still
unfoldable pub tick : PictureAndRequests → PictureAndRequests
tick d = if is_on d.picture.state then evaluated (moved d) else d

-- n M-cycles of a picture unit that has requested nothing
abbrev pub ticks : ℕ → PictureUnit → PictureAndRequests
ticks n s = iterate tick n (unrequested s)

-- The next M-cycle is the first of a line, or on a line below 144 the first of mode 3 or of mode 0.
unfoldable pub is_entry : PictureAndRequests → Bool
is_entry d =
    let next : PictureState = advanced d.picture.state in
    is_on d.picture.state
    && (next.m_cycle == 0 || nat_lt next.ly 144 && (next.m_cycle == 20 || next.m_cycle == 63))

-- 144 rows of 160 shades 0
unfoldable pub blank_rows : List (List ℕ)
blank_rows = replicate 144 (replicate 160 0)

-- the picture unit when the machine is switched on: line 0 in mode 2, so that STAT reads 86 (fixed profile)
unfoldable pub state_at_power_on : PictureState
state_at_power_on = record {
  lcdc = 0x91;
  stat = 0;
  scy = 0;
  scx = 0;
  lyc = 0;
  bgp = 0xFC;
  obp0 = 0xFF;
  obp1 = 0xFF;
  wy = 0;
  wx = 0;
  ly = 0;
  m_cycle = 0;
  window_counter = 0;
  seen = true;
  signal = false;
}

unfoldable pub picture_at_power_on : PictureUnit
picture_at_power_on = record {
  state = state_at_power_on;
  vram = replicate 8192 0;
  oam = replicate 160 0;
  rows = blank_rows;
}

-- the sizes and ranges that every picture unit keeps
pub record IsWhole (state : PictureState) (oam : List ℕ) (rows : List (List ℕ)) : Type 0 where
  pub legal : IsLegalPicture state
  pub oam_size : length oam ≡ 160
  pub row_count : length rows ≡ 144
  pub shades : All (λ row. All (λ shade. shade < 4) row) rows
