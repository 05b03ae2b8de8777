-- One M-cycle of all units, in the order timer, serial, object DMA, picture (fixed profile), and the next event:
-- Pan Docs, "OAM DMA Transfer".
use Rattle.std.specs.Prelude.{ℕ, ◌+◌, ◌-◌, ◌*◌, Bool, slice_set, nat_lt, ◌||◌, if◌then◌else◌}
use Rattle.timer_unit.specs.Timer as timer
use Rattle.timer_unit.specs.Serial as serial
use Rattle.picture_unit.specs.Picture as picture
use Rattle.memory_map.specs.declared.control.Control.{Control}
use Rattle.memory_map.specs.State.{BusState}
use Rattle.memory_map.specs.Bus.{peeked, with_oam}

abbrev pub tick_timer : BusState → BusState
tick_timer b = record b { timer = timer.tick b.timer }

abbrev pub tick_serial : BusState → BusState
tick_serial b = record b { serial = serial.tick b.serial }

-- where the next byte of a copy comes from: a page from E0 up is read as the page 20 lower (fixed profile)
abbrev pub dma_source : Control → ℕ
dma_source c = 256 * (if nat_lt c.dma 0xE0 then c.dma else c.dma - 0x20) + c.dma_copied

-- one byte of a copy. It reads what no mode closes, and writes OAM in every mode.
abbrev pub copied_byte : BusState → BusState
copied_byte b =
    let c = with_oam (slice_set b.picture.picture.oam b.control.dma_copied (peeked b (dma_source b.control))) b in
    record c { control = record b.control { dma_copied = b.control.dma_copied + 1 } }

-- a copy runs while fewer than 160 bytes are copied
abbrev pub tick_dma : BusState → BusState
tick_dma b = if nat_lt b.control.dma_copied 160 then copied_byte b else b

abbrev pub tick_picture : BusState → BusState
tick_picture b = record b { picture = picture.tick b.picture }

-- the copy, then the picture unit, which sees OAM with what is copied so far (fixed profile)
abbrev pub tick_dma_and_picture : BusState → BusState
tick_dma_and_picture b = tick_picture (tick_dma b)

abbrev pub tick : BusState → BusState
tick b = tick_dma_and_picture (tick_serial (tick_timer b))

-- ---- the next event

-- the next M-cycle copies a byte
abbrev pub copies : BusState → Bool
copies b = nat_lt b.control.dma_copied 160

-- the next M-cycle has an event of some unit: a byte of a copy, a fall of the timer's signal, the end of a transfer,
-- the entry to a line, to mode 3 or to mode 0
abbrev pub happens : BusState → Bool
happens b = copies b || (timer.signal_falls b.timer || (serial.transfer_ends b.serial || picture.is_entry b.picture))
