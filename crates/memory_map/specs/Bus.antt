-- What reads and writes give and leave: Pan Docs, "Memory Map", "Interrupts" and the pages on each register.
use Rattle.std.specs.Prelude.{ℕ, ◌+◌, ◌*◌, ◌/◌, ◌%◌, Bool, false, List, slice_index, slice_set, bit_and, nat_lt, ◌==◌, ◌||◌, if◌then◌else◌}
use Rattle.timer_unit.specs.Timer as timer
use Rattle.timer_unit.specs.Serial as serial
use Rattle.picture_unit.specs.Registers as registers
use Rattle.picture_unit.specs.Stores.{is_vram_closed, is_oam_closed}
use Rattle.bank_controllers.specs.CartridgeState as banks
use Rattle.memory_map.specs.declared.place.Place.{Place}
use Rattle.memory_map.specs.declared.place.Place.TheVariants.{Cartridge, Vram, Wram, Oam, Unused, Sound, Register, Hram, InterruptEnable}
use Rattle.memory_map.specs.Map.{place}
use Rattle.memory_map.specs.Joypad.{select_bits, p1_value, joypad_set}
use Rattle.memory_map.specs.State.{BusState}

-- ---- the interrupts

abbrev pub digit : Bool → ℕ
digit b = if b then 1 else 0

-- the low five bits of IF: the requests of the units, VBlank 0, STAT 1, timer 2, serial 3, joypad 4
abbrev pub interrupt_flag : BusState → ℕ
interrupt_flag b =
    digit b.picture.vblank + 2 * digit b.picture.stat + 4 * digit b.timer.requested + 8 * digit b.serial.requested + 16 * digit b.control.joypad

abbrev pub with_requests : (vblank stat timer serial joypad : Bool) → BusState → BusState
with_requests vblank stat timer serial joypad b = record b {
  picture = record b.picture { vblank = vblank; stat = stat };
  timer = record b.timer { requested = timer };
  serial = record b.serial { requested = serial };
  control = record b.control { joypad = joypad };
}

-- whether the bit of this weight is set
abbrev pub is_set : (n weight : ℕ) → Bool
is_set n weight = n / weight % 2 == 1

-- IF is written: its low five bits become the requests
abbrev pub with_interrupt_flag : ℕ → BusState → BusState
with_interrupt_flag n = with_requests (is_set n 1) (is_set n 2) (is_set n 4) (is_set n 8) (is_set n 16)

-- the bits that IE and IF share, of the low five
abbrev pub pending_interrupts : BusState → ℕ
pending_interrupts b = bit_and b.control.ie (interrupt_flag b)

-- one of the five requests is withdrawn; a bit above 4 changes nothing
abbrev pub acknowledged : ℕ → BusState → BusState
acknowledged bit b =
    if bit == 0 then record b { picture = record b.picture { vblank = false } }
    else if bit == 1 then record b { picture = record b.picture { stat = false } }
    else if bit == 2 then record b { timer = record b.timer { requested = false } }
    else if bit == 3 then record b { serial = record b.serial { requested = false } }
    else if bit == 4 then record b { control = record b.control { joypad = false } }
    else b

-- ---- the registers

-- what a register reads: unused bits of SC, TAC and IF read 1 (fixed profile); the picture unit gives its own, and FF
-- for every other address
unfoldable pub register_value : BusState → (address : ℕ) → ℕ
register_value b a =
    if a == 0xFF00 then p1_value b.control
    else if a == 0xFF01 then b.serial.serial.sb
    else if a == 0xFF02 then 0x7E + b.serial.serial.sc
    else if a == 0xFF04 then b.timer.timer.counter / 256
    else if a == 0xFF05 then b.timer.timer.tima
    else if a == 0xFF06 then b.timer.timer.tma
    else if a == 0xFF07 then 0xF8 + b.timer.timer.tac
    else if a == 0xFF0F then 0xE0 + interrupt_flag b
    else if a == 0xFF46 then b.control.dma
    else registers.register_value b.picture.picture.state a

-- A register is written. The picture unit takes its own, and every other address ignores the write.
unfoldable pub register_written : (address value : ℕ) → BusState → BusState
register_written a v b =
    if a == 0xFF00 then record b { control = joypad_set (select_bits v) b.control.buttons b.control }
    else if a == 0xFF01 then record b { serial = record b.serial { serial = record b.serial.serial { sb = v } } }
    else if a == 0xFF02 then record b { serial = record b.serial { serial = serial.sc_written v b.serial.serial } }
    else if a == 0xFF04 then record b { timer = timer.with_counter_and_tac 0 b.timer.timer.tac b.timer }
    else if a == 0xFF05 then record b { timer = record b.timer { timer = record b.timer.timer { tima = v } } }
    else if a == 0xFF06 then record b { timer = record b.timer { timer = record b.timer.timer { tma = v } } }
    else if a == 0xFF07 then record b { timer = timer.with_counter_and_tac b.timer.timer.counter (v % 8) b.timer }
    else if a == 0xFF0F then with_interrupt_flag v b
    else if a == 0xFF46 then record b { control = record b.control { dma = v; dma_copied = 0 } }
    else record b { picture = registers.register_written a v b.picture }

-- ---- places

-- What is at a place, whatever mode or copy closes it. FEA0 to FEFF read 00, and FF10 to FF3F the sound bytes as they were written
-- (fixed profile).
abbrev pub value_at : BusState → Place → ℕ
value_at b (Cartridge a) = banks.read_at b.banks a
value_at b (Vram i) = slice_index b.picture.picture.vram i
value_at b (Wram i) = slice_index b.wram i
value_at b (Oam i) = slice_index b.picture.picture.oam i
value_at b Unused = 0
value_at b (Sound i) = slice_index b.sound i
value_at b (Register a) = register_value b a
value_at b (Hram i) = slice_index b.hram i
value_at b InterruptEnable = b.control.ie

-- mode 3 closes VRAM; modes 2 and 3, and a running copy, close OAM. A copy closes nothing else (fixed profile).
abbrev pub is_closed : BusState → Place → Bool
is_closed b (Cartridge a) = false
is_closed b (Vram i) = is_vram_closed b.picture.picture.state
is_closed b (Wram i) = false
is_closed b (Oam i) = nat_lt b.control.dma_copied 160 || is_oam_closed b.picture.picture.state
is_closed b Unused = false
is_closed b (Sound i) = false
is_closed b (Register a) = false
is_closed b (Hram i) = false
is_closed b InterruptEnable = false

abbrev pub with_vram : List ℕ → BusState → BusState
with_vram vram b = record b { picture = record b.picture { picture = record b.picture.picture { vram = vram } } }

abbrev pub with_oam : List ℕ → BusState → BusState
with_oam oam b = record b { picture = record b.picture { picture = record b.picture.picture { oam = oam } } }

-- A place that is not closed is written. Writes to FEA0 to FEFF are ignored (fixed profile).
abbrev pub stored_at : Place → ℕ → BusState → BusState
stored_at (Cartridge a) v b = record b { banks = banks.written a v b.banks }
stored_at (Vram i) v b = with_vram (slice_set b.picture.picture.vram i v) b
stored_at (Wram i) v b = record b { wram = slice_set b.wram i v }
stored_at (Oam i) v b = with_oam (slice_set b.picture.picture.oam i v) b
stored_at Unused v b = b
stored_at (Sound i) v b = record b { sound = slice_set b.sound i v }
stored_at (Register a) v b = register_written a v b
stored_at (Hram i) v b = record b { hram = slice_set b.hram i v }
stored_at InterruptEnable v b = record b { control = record b.control { ie = v } }

-- ---- reads and writes by address

unfoldable pub peeked : BusState → ℕ → ℕ
peeked b a = value_at b (place a)

-- a closed place reads FF
unfoldable pub read_at : BusState → ℕ → ℕ
read_at b a = if is_closed b (place a) then 0xFF else value_at b (place a)

-- a write to a closed place is ignored
unfoldable pub written : ℕ → ℕ → BusState → BusState
written a v b = if is_closed b (place a) then b else stored_at (place a) v b

-- the buttons that are pressed become these
abbrev pub buttons_set : ℕ → BusState → BusState
buttons_set buttons b = record b { control = joypad_set b.control.p1_select buttons b.control }
