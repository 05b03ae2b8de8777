-- The snapshot of a machine, byte by byte. Words are written low byte first.
use Rattle.std.specs.Prelude.{ℕ, ◌+◌, ◌*◌, ◌/◌, ◌%◌, Bool, List, [], ◌∷◌, ◌++◌, map, replicate, slice_index, slice_index_or}
use Rattle.std.specs.List.{range_with_len}
use Rattle.sm83_alu.specs.Flags.{digit_of, flags_byte}
use Rattle.cartridge.specs.declared.controller.Controller.{Controller}
use Rattle.cartridge.specs.declared.controller.Controller.TheVariants.{NoMbc, Mbc1, Mbc2, Mbc3, Mbc3Clock, Mbc5}
use Rattle.memory_map.specs.State.{BusState}
use Rattle.sm83_processor.specs.declared.processor.ProcessorState.{ProcessorState}
use Rattle.machine.specs.declared.machine_without_memory.MachineWithoutMemory.{MachineWithoutMemory}
use Rattle.machine.specs.Machine.{MachineState}
use Rattle.machine.specs.MachineStores.{without_memory}
use Rattle.snapshot.specs.Layout.{at}

abbrev pub low : ℕ → ℕ
low word = word % 256

abbrev pub high : ℕ → ℕ
high word = word / 256

-- bits 0 to 5
abbrev pub processor_byte : ProcessorState → ℕ
processor_byte s =
    digit_of s.ime + 2 * digit_of s.ime_pending + 4 * digit_of s.halted + 8 * digit_of s.stopped + 16 * digit_of s.locked + 32 * digit_of s.halt_bug

-- bit 0 that WY was seen, bit 1 the STAT signal
abbrev pub picture_byte : (seen signal : Bool) → ℕ
picture_byte seen signal = digit_of seen + 2 * digit_of signal

abbrev pub kind_byte : Controller → ℕ
kind_byte NoMbc = 0
kind_byte Mbc1 = 1
kind_byte Mbc2 = 2
kind_byte Mbc3 = 3
kind_byte Mbc3Clock = 4
kind_byte Mbc5 = 5

-- bytes 0 to 66, which begin with GBSNAP01
abbrev pub fixed_fields : MachineWithoutMemory → List ℕ
fixed_fields m =
    0x47 ∷ 0x42 ∷ 0x53 ∷ 0x4E ∷ 0x41 ∷ 0x50 ∷ 0x30 ∷ 0x31
    ∷ m.registers.a ∷ flags_byte m.registers.flags ∷ m.registers.b ∷ m.registers.c
    ∷ m.registers.d ∷ m.registers.e ∷ m.registers.h ∷ m.registers.l
    ∷ low m.registers.sp ∷ high m.registers.sp ∷ low m.registers.pc ∷ high m.registers.pc
    ∷ processor_byte m.state ∷ m.overrun ∷ m.bus.ie ∷ m.bus.interrupt_flag ∷ m.bus.buttons ∷ m.bus.p1_select
    ∷ low m.bus.timer.counter ∷ high m.bus.timer.counter ∷ m.bus.timer.tima ∷ m.bus.timer.tma ∷ m.bus.timer.tac
    ∷ m.bus.serial.sb ∷ m.bus.serial.sc ∷ low m.bus.serial.cycles_left ∷ high m.bus.serial.cycles_left
    ∷ m.bus.dma ∷ m.bus.dma_copied
    ∷ m.bus.picture.lcdc ∷ m.bus.picture.stat ∷ m.bus.picture.scy ∷ m.bus.picture.scx ∷ m.bus.picture.lyc
    ∷ m.bus.picture.bgp ∷ m.bus.picture.obp0 ∷ m.bus.picture.obp1 ∷ m.bus.picture.wy ∷ m.bus.picture.wx
    ∷ m.bus.picture.ly ∷ m.bus.picture.m_cycle ∷ m.bus.picture.window_counter
    ∷ picture_byte m.bus.picture.seen m.bus.picture.signal
    ∷ kind_byte m.bus.banks.kind ∷ digit_of m.bus.banks.ram_enabled
    ∷ low m.bus.banks.rom_bank ∷ high m.bus.banks.rom_bank ∷ m.bus.banks.ram_bank ∷ digit_of m.bus.banks.mode
    ∷ m.bus.banks.clock.seconds ∷ m.bus.banks.clock.minutes ∷ m.bus.banks.clock.hours
    ∷ m.bus.banks.clock.day_low ∷ m.bus.banks.clock.day_high
    ∷ m.bus.banks.latched.seconds ∷ m.bus.banks.latched.minutes ∷ m.bus.banks.latched.hours
    ∷ m.bus.banks.latched.day_low ∷ m.bus.banks.latched.day_high
    ∷ []

-- bytes 67 to 127
unfoldable pub unused : List ℕ
unused = replicate 61 0

-- four shades of a row from column 4i on, the leftmost in bits 7 and 6
abbrev pub byte_of_four : List ℕ → (i : ℕ) → ℕ
byte_of_four row i =
    64 * slice_index row (4 * i) + 16 * slice_index row (4 * i + 1) + 4 * slice_index row (4 * i + 2) + slice_index row (4 * i + 3)

-- 144 rows of 160 shades, row by row: 40 bytes a row
unfoldable pub picture_bytes : List (List ℕ) → List ℕ
picture_bytes rows = map (λ k. byte_of_four (slice_index_or rows (k / 40) []) (k % 40)) (range_with_len 0 5760)

-- the bytes from 67 on: those unused, then VRAM, WRAM, OAM, HRAM, the sound bytes, the picture and the cartridge's RAM
abbrev pub stores_bytes : BusState → List ℕ
stores_bytes b =
    unused ++ (b.picture.picture.vram ++ (b.wram ++ (b.picture.picture.oam ++ (b.hram ++ (b.sound ++ (picture_bytes b.picture.picture.rows ++ b.banks.ram))))))

unfoldable pub encoded : MachineState → List ℕ
encoded m = fixed_fields (without_memory m) ++ stores_bytes m.processor.memory

-- the length of a snapshot without cartridge RAM, which comes last
abbrev pub length_without_ram : ℕ
length_without_ram = at.ram

-- the length of a snapshot, by the bytes of cartridge RAM
abbrev pub snapshot_length : ℕ → ℕ
snapshot_length ram = length_without_ram + ram
