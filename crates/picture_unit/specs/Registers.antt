-- The registers FF40 to FF4B: Pan Docs, "LCD Control", "LCD Status Registers", "Scrolling" and
-- "Palettes".
use Rattle.std.specs.Prelude.{ℕ, ◌+◌, ◌*◌, ◌/◌, ◌%◌, false, ◌&&◌, not, ◌==◌, nat_le, nat_lt, if◌then◌else◌}
use Rattle.picture_unit.specs.declared.state.PictureState.{PictureState}
use Rattle.picture_unit.specs.Picture.{PictureUnit, PictureAndRequests, is_on, mode, evaluated, blank_rows}

-- STAT: bit 7 is 1, bits 6 to 3 were written, bit 2 is LY = LYC, bits 1 and 0 are the mode
unfoldable pub stat_value : PictureState → ℕ
stat_value p = 128 + p.stat + (if p.ly == p.lyc then 4 else 0) + mode p

-- what a register reads; every other address reads FF (FF46 is the register of the object DMA)
unfoldable pub register_value : PictureState → (address : ℕ) → ℕ
register_value p address =
    if address == 0xFF40 then p.lcdc
    else if address == 0xFF41 then stat_value p
    else if address == 0xFF42 then p.scy
    else if address == 0xFF43 then p.scx
    else if address == 0xFF44 then p.ly
    else if address == 0xFF45 then p.lyc
    else if address == 0xFF47 then p.bgp
    else if address == 0xFF48 then p.obp0
    else if address == 0xFF49 then p.obp1
    else if address == 0xFF4A then p.wy
    else if address == 0xFF4B then p.wx
    else 255

-- The registers that only hold what was written. LY (FF44) and every other address ignore the
-- write.
unfoldable pub register_stored : (address value : ℕ) → PictureState → PictureState
register_stored address value p =
    if address == 0xFF42 then record p { scy = value }
    else if address == 0xFF43 then record p { scx = value }
    else if address == 0xFF47 then record p { bgp = value }
    else if address == 0xFF48 then record p { obp0 = value }
    else if address == 0xFF49 then record p { obp1 = value }
    else if address == 0xFF4A then record p { wy = value }
    else if address == 0xFF4B then record p { wx = value }
    else p

-- LCDC bit 7 goes from 1 to 0: line 0, M-cycle 0, no STAT signal, and a blank picture
unfoldable pub switched_off : (lcdc : ℕ) → PictureUnit → PictureUnit
switched_off lcdc s = record s {
  state = record s.state {
    lcdc = lcdc;
    ly = 0;
    m_cycle = 0;
    window_counter = 0;
    seen = false;
    signal = false;
  };
  rows = blank_rows;
}

-- LCDC bit 7 goes from 0 to 1: line 0 begins, in mode 2, and the first picture is drawn as any other (fixed profile)
unfoldable pub switched_on : (lcdc : ℕ) → PictureUnit → PictureUnit
switched_on lcdc s = record s {
  state = record s.state {
    lcdc = lcdc;
    ly = 0;
    m_cycle = 0;
    window_counter = 0;
    seen = s.state.wy == 0;
  };
}

-- LCDC is written: only a change of bit 7 does more than to store it
unfoldable pub lcdc_written : (lcdc : ℕ) → PictureUnit → PictureUnit
lcdc_written lcdc s =
    if is_on s.state && nat_lt lcdc 128 then switched_off lcdc s
    else if not (is_on s.state) && nat_le 128 lcdc then switched_on lcdc s
    else record s { state = record s.state { lcdc = lcdc } }

-- STAT is written: bits 6 to 3 are kept, and the write itself requests nothing (fixed profile)
unfoldable pub stat_written : (value : ℕ) → PictureUnit → PictureUnit
stat_written value s = record s { state = record s.state { stat = 8 * (value / 8 % 16) } }

unfoldable pub lyc_written : (value : ℕ) → PictureUnit → PictureUnit
lyc_written value s = record s { state = record s.state { lyc = value } }

-- A register is written. After LCDC, STAT and LYC the STAT signal is evaluated.
unfoldable pub register_written : (address value : ℕ) → PictureAndRequests → PictureAndRequests
register_written address value d =
    if address == 0xFF40 then evaluated (record d { picture = lcdc_written value d.picture })
    else if address == 0xFF41 then evaluated (record d { picture = stat_written value d.picture })
    else if address == 0xFF45 then evaluated (record d { picture = lyc_written value d.picture })
    else record d {
      picture = record d.picture { state = register_stored address value d.picture.state };
    }
