-- Which bytes are legal: the fields of a snapshot in order, each by its offset, its width in bytes and its rule.
use Rattle.std.specs.Prelude.{ℕ, ◌+◌, ◌*◌, Bool, true, List, [], ◌∷◌, slice_index, slice_range, nat_le, nat_lt, ◌==◌, ◌&&◌, bit_and, if◌then◌else◌}
use Rattle.std.specs.List.{list_all}
use Rattle.std.specs.Option.{unwrap_or}
use Rattle.cartridge.specs.Header.{controller_of, has_rumble, ram_length_of}
use Rattle.cartridge.specs.declared.controller.Controller.{Controller}
use Rattle.cartridge.specs.declared.controller.Controller.TheVariants.{NoMbc, Mbc1, Mbc2, Mbc3, Mbc3Clock, Mbc5}
use Rattle.bank_controllers.specs.State.{first_rom_bank, last_rom_bank, last_ram_bank, has_ram_enable, has_mode, has_clock}
use Rattle.snapshot.specs.declared.field.SnapshotField.{SnapshotField}
use Rattle.snapshot.specs.declared.field.Rule.{Rule}
use Rattle.snapshot.specs.declared.field.Rule.TheVariants.{Any, Magic, Between, Bits, Zeros, HalfBytes}
use Rattle.snapshot.specs.Layout.{at}
use Rattle.snapshot.specs.Encoding.{kind_byte}

-- ---- rules

-- the number of a field of one byte, or of two with the low byte first
abbrev pub number_of : SnapshotField → List ℕ → ℕ
number_of f bytes = if f.width == 2 then slice_index bytes f.offset + 256 * slice_index bytes (f.offset + 1) else slice_index bytes f.offset

abbrev pub part_of : SnapshotField → List ℕ → List ℕ
part_of f bytes = slice_range bytes f.offset (f.offset + f.width)

-- GBSNAP01
abbrev pub is_magic_at : ℕ → List ℕ → Bool
is_magic_at at bytes =
    slice_index bytes at == 0x47
    && (slice_index bytes (at + 1) == 0x42
    && (slice_index bytes (at + 2) == 0x53
    && (slice_index bytes (at + 3) == 0x4E
    && (slice_index bytes (at + 4) == 0x41
    && (slice_index bytes (at + 5) == 0x50
    && (slice_index bytes (at + 6) == 0x30
    && slice_index bytes (at + 7) == 0x31))))))

abbrev pub is_legal_under : Rule → SnapshotField → List ℕ → Bool
is_legal_under Any f bytes = true
is_legal_under Magic f bytes = is_magic_at f.offset bytes
is_legal_under (Between first last) f bytes = nat_le first (number_of f bytes) && nat_le (number_of f bytes) last
is_legal_under (Bits bits) f bytes = bit_and (number_of f bytes) bits == number_of f bytes
is_legal_under Zeros f bytes = list_all (λ byte. byte == 0) (part_of f bytes)
is_legal_under HalfBytes f bytes = list_all (λ byte. nat_lt byte 16) (part_of f bytes)

abbrev pub is_legal : SnapshotField → List ℕ → Bool
is_legal f bytes = is_legal_under f.rule f bytes

-- ---- the table

abbrev pub byte : (offset : ℕ) → Rule → SnapshotField
byte offset rule = record { offset = offset; width = 1; rule = rule }

abbrev pub word : (offset : ℕ) → Rule → SnapshotField
word offset rule = record { offset = offset; width = 2; rule = rule }

abbrev pub bytes : (offset width : ℕ) → Rule → SnapshotField
bytes offset width rule = record { offset = offset; width = width; rule = rule }

-- 0 or 1 where the kind has this register, else 0
abbrev pub switch : Bool → Rule
switch has = Between 0 (if has then 1 else 0)

-- up to a number where the kind has a clock, else 0
abbrev pub counts_to : Controller → ℕ → Rule
counts_to kind last = Between 0 (if has_clock kind then last else 0)

-- the day's high byte: only bits 7, 6 and 0, and without a clock none
abbrev pub day_high_of : Controller → Rule
day_high_of kind = Bits (if has_clock kind then 0xC1 else 0)

-- MBC2 has half bytes
abbrev pub ram_rule : Controller → Rule
ram_rule NoMbc = Any
ram_rule Mbc1 = Any
ram_rule Mbc2 = HalfBytes
ram_rule Mbc3 = Any
ram_rule Mbc3Clock = Any
ram_rule Mbc5 = Any

-- of a cartridge with this kind, with or without a rumble motor, and with this many bytes of RAM
unfoldable pub table : Controller → Bool → ℕ → List SnapshotField
table kind rumble ram =
    bytes at.magic 8 Magic
    -- A F B C D E H L, of which F has no bits 3 to 0; SP and PC
    ∷ byte at.a Any
    ∷ byte at.f (Bits 0xF0)
    ∷ byte at.b Any
    ∷ byte at.c Any
    ∷ byte at.d Any
    ∷ byte at.e Any
    ∷ byte at.h Any
    ∷ byte at.l Any
    ∷ word at.sp Any
    ∷ word at.pc Any
    -- IME, ime_pending, halted, stopped, locked and halt_bug as bits 0 to 5; the overrun
    ∷ byte at.processor (Between 0 63)
    ∷ byte at.overrun (Between 0 5)
    -- IE, IF, the buttons, the select bits of P1
    ∷ byte at.ie Any
    ∷ byte at.interrupt_flag (Between 0 31)
    ∷ byte at.buttons Any
    ∷ byte at.p1_select (Bits 0x30)
    -- the timer's counter, TIMA, TMA and TAC
    ∷ word at.counter Any
    ∷ byte at.tima Any
    ∷ byte at.tma Any
    ∷ byte at.tac (Between 0 7)
    -- SB, SC and the M-cycles left of a serial transfer
    ∷ byte at.sb Any
    ∷ byte at.sc (Bits 0x81)
    ∷ word at.cycles_left (Between 0 1024)
    -- the DMA register and the bytes copied
    ∷ byte at.dma Any
    ∷ byte at.dma_copied (Between 0 160)
    -- LCDC, STAT, SCY, SCX, LYC, BGP, OBP0, OBP1, WY, WX
    ∷ byte at.lcdc Any
    ∷ byte at.stat (Bits 0x78)
    ∷ byte at.scy Any
    ∷ byte at.scx Any
    ∷ byte at.lyc Any
    ∷ byte at.bgp Any
    ∷ byte at.obp0 Any
    ∷ byte at.obp1 Any
    ∷ byte at.wy Any
    ∷ byte at.wx Any
    -- the line, its M-cycle, the window counter; that WY was seen and the STAT signal as bits 0 and 1
    ∷ byte at.ly (Between 0 153)
    ∷ byte at.m_cycle (Between 0 113)
    ∷ byte at.window_counter Any
    ∷ byte at.seen_and_signal (Between 0 3)
    -- the controller: its kind, RAM enabled, the ROM bank, the RAM bank (MBC1's upper bits, MBC3's select), MBC1's mode or the
    -- armed latch
    ∷ byte at.kind (Between (kind_byte kind) (kind_byte kind))
    ∷ byte at.ram_enabled (switch (has_ram_enable kind))
    ∷ word at.rom_bank (Between (first_rom_bank kind) (last_rom_bank kind))
    ∷ byte at.ram_bank (Between 0 (last_ram_bank kind rumble))
    ∷ byte at.mode (switch (has_mode kind))
    -- the live clock, then the latched one: seconds, minutes, hours, day low, day high
    ∷ byte at.clock (counts_to kind 63)
    ∷ byte (at.clock + 1) (counts_to kind 63)
    ∷ byte (at.clock + 2) (counts_to kind 31)
    ∷ byte (at.clock + 3) (counts_to kind 255)
    ∷ byte (at.clock + 4) (day_high_of kind)
    ∷ byte at.latched (counts_to kind 63)
    ∷ byte (at.latched + 1) (counts_to kind 63)
    ∷ byte (at.latched + 2) (counts_to kind 31)
    ∷ byte (at.latched + 3) (counts_to kind 255)
    ∷ byte (at.latched + 4) (day_high_of kind)
    -- unused
    ∷ bytes at.unused 61 Zeros
    -- VRAM, WRAM, OAM, HRAM, the sound bytes, the picture and the cartridge's RAM
    ∷ bytes at.vram 8192 Any
    ∷ bytes at.wram 8192 Any
    ∷ bytes at.oam 160 Any
    ∷ bytes at.hram 127 Any
    ∷ bytes at.sound 48 Any
    ∷ bytes at.rows 5760 Any
    ∷ bytes at.ram ram (ram_rule kind)
    ∷ []

-- the controller of an accepted image
abbrev pub kind_of_image : List ℕ → Controller
kind_of_image image = unwrap_or (controller_of image) NoMbc

unfoldable pub table_of : List ℕ → List SnapshotField
table_of image = table (kind_of_image image) (has_rumble image) (ram_length_of image)
