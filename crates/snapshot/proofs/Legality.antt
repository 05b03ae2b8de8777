-- The table of fields: what its rules say of the registers of bytes, and that the snapshot of legal registers keeps them.
use Rattle.std.proofs.Common.{◌≡◌, ℕ, zero, suc, ◌+◌, ◌<◌, ◌≤◌, Bool, true, false, eqb, nat_le, cond, List, ◌++◌, length, get_or, refl, sym, ap, ◌∙◌, eq-eqb, lit<, arith}
use Rattle.std.specs.Prelude.{bit_and, slice_range, slice_index, ◌&&◌, ◌==◌}
use Rattle.std.specs.List.{All, list_all}
use Rattle.std.proofs.lemmas.Bool.{eqb-true, leb-true, le-leb, and_parts}
use Rattle.std.proofs.lemmas.List.Elements.{All-from_recursion}
use Rattle.sm83_alu.specs.Flags.{digit_of}
use Rattle.cartridge.specs.declared.controller.Controller.{Controller}
use Rattle.bank_controllers.specs.State.{first_rom_bank, last_rom_bank, last_ram_bank, has_ram_enable, has_mode, has_clock, IsLegalBanks}
use Rattle.bank_controllers.specs.CartridgeState.{CartridgeState}
use Rattle.sm83_processor.specs.declared.processor.ProcessorState.{ProcessorState}
use Rattle.machine.specs.declared.machine_without_memory.MachineWithoutMemory.{MachineWithoutMemory}
use Rattle.machine.specs.MachineStores.{AreLegalFor}
use Rattle.snapshot.specs.declared.field.Rule.TheVariants.{Any, Magic}
use Rattle.snapshot.specs.Encoding.{fixed_fields, kind_byte, processor_byte, picture_byte}
use Rattle.snapshot.specs.Table.{byte, bytes, is_legal, ram_rule, table}
use Rattle.snapshot.specs.Reading.{registers_in, clock_at, word_at}
use Rattle.snapshot.proofs.Bytes.{digit_small, word_back, flags_fit, select_is, sc_is, stat_is}
use Rattle.snapshot.proofs.Clocks.{IsWithin, clock_within, clock_legal}
use Rattle.snapshot.proofs.FixedFields.{AreFields}

between_true : (first n last : ℕ) → first ≤ n → n ≤ last → (nat_le first n && nat_le n last) ≡ true
between_true first n last low high = rw (le-leb first n low, le-leb n last high) refl

between_parts : (first n last : ℕ) → (nat_le first n && nat_le n last) ≡ true → (first ≤ n) × (n ≤ last)
between_parts first n last e = let p = and_parts _ _ e in (leb-true first n p.0, leb-true n last p.1)

at_most : (n last : ℕ) → (nat_le 0 n && nat_le n last) ≡ true → n ≤ last
at_most n last e = (between_parts 0 n last e).1

up_to : (n last : ℕ) → n ≤ last → (nat_le 0 n && nat_le n last) ≡ true
up_to n last h = between_true 0 n last (omega arith) h

only_bits : (n bits : ℕ) → (bit_and n bits == n) ≡ true → bit_and n bits ≡ n
only_bits n bits e = eqb-true _ _ e

-- a register that some kinds lack
switch_off : (has : Bool) (n : ℕ) → n ≤ cond has 1 0 → has ≡ false → eqb n 1 ≡ false
switch_off true n h e = cc
switch_off false zero h e = refl
switch_off false (suc n) h e = absurd (omega arith)

switch_fits : (has bit : Bool) → (has ≡ false → bit ≡ false) → digit_of bit ≤ cond has 1 0
switch_fits true bit h = let small = digit_small bit in omega arith
switch_fits false bit h = rw (h refl) (omega arith)

switch_small : (has : Bool) (n : ℕ) → n ≤ cond has 1 0 → n < 2
switch_small true n h = omega arith
switch_small false n h = omega arith

-- ---- what legal bytes stand for

abbrev pub AreLegalFields : (kind : Controller) (rumble : Bool) (ram : ℕ) (encoded : List ℕ) → Type 0
AreLegalFields kind rumble ram encoded = All (λ field. is_legal field encoded ≡ true) (table kind rumble ram)

pub clocks_in : (kind : Controller) (rumble : Bool) (ram : ℕ) (encoded : List ℕ) → AreLegalFields kind rumble ram encoded → IsWithin (has_clock kind) (clock_at encoded 57) × IsWithin (has_clock kind) (clock_at encoded 62)
unfolding table
clocks_in kind rumble ram encoded h = (
  record {
    seconds = at_most (slice_index encoded 57) (cond (has_clock kind) 63 0) (h 45 (byte 0 Any) (lit< tt));
    minutes = at_most (slice_index encoded 58) (cond (has_clock kind) 63 0) (h 46 (byte 0 Any) (lit< tt));
    hours = at_most (slice_index encoded 59) (cond (has_clock kind) 31 0) (h 47 (byte 0 Any) (lit< tt));
    day_low = at_most (slice_index encoded 60) (cond (has_clock kind) 255 0) (h 48 (byte 0 Any) (lit< tt));
    day_high = (h 49 (byte 0 Any) (lit< tt));
  },
  record {
    seconds = at_most (slice_index encoded 62) (cond (has_clock kind) 63 0) (h 50 (byte 0 Any) (lit< tt));
    minutes = at_most (slice_index encoded 63) (cond (has_clock kind) 63 0) (h 51 (byte 0 Any) (lit< tt));
    hours = at_most (slice_index encoded 64) (cond (has_clock kind) 31 0) (h 52 (byte 0 Any) (lit< tt));
    day_low = at_most (slice_index encoded 65) (cond (has_clock kind) 255 0) (h 53 (byte 0 Any) (lit< tt));
    day_high = (h 54 (byte 0 Any) (lit< tt));
  },
)

pub banks_in : (kind : Controller) (rumble : Bool) (ram : ℕ) (encoded : List ℕ) → ((i : ℕ) → get_or encoded i 0 < 256) → AreLegalFields kind rumble ram encoded → IsLegalBanks kind rumble (registers_in kind encoded).bus.banks
unfolding table
banks_in kind rumble ram encoded fit h =
    let clocks = clocks_in kind rumble ram encoded h in
    let bank = between_parts (first_rom_bank kind) (word_at encoded 53) (last_rom_bank kind) (h 42 (byte 0 Any) (lit< tt)) in
    record {
      kind = refl;
      enable = λ e. switch_off (has_ram_enable kind) (slice_index encoded 52) (at_most (slice_index encoded 52) (cond (has_ram_enable kind) 1 0) (h 41 (byte 0 Any) (lit< tt))) e;
      first = bank.0;
      last = bank.1;
      ram_bank = at_most (slice_index encoded 55) (last_ram_bank kind rumble) (h 43 (byte 0 Any) (lit< tt));
      mode = λ e. switch_off (has_mode kind) (slice_index encoded 56) (at_most (slice_index encoded 56) (cond (has_mode kind) 1 0) (h 44 (byte 0 Any) (lit< tt))) e;
      clock = clock_legal (has_clock kind) (clock_at encoded 57) (fit 61) clocks.0;
      latched = clock_legal (has_clock kind) (clock_at encoded 62) (fit 66) clocks.1;
    }

word_fits : (encoded : List ℕ) (offset : ℕ) → ((i : ℕ) → get_or encoded i 0 < 256) → word_at encoded offset < 65536
word_fits encoded offset fit = omega (arith, fit offset, fit (offset + 1))

pub registers_legal : (cartridge : CartridgeState) (ram : ℕ) (encoded : List ℕ) → ((i : ℕ) → get_or encoded i 0 < 256) → AreLegalFields cartridge.state.kind cartridge.rumble ram encoded → AreLegalFor cartridge (registers_in cartridge.state.kind encoded)
unfolding table
registers_legal cartridge ram encoded fit h =
    let overrun : (slice_index encoded 21) ≤ 5 = at_most (slice_index encoded 21) 5 (h 12 (byte 0 Any) (lit< tt)) in
    let flag : (slice_index encoded 23) ≤ 31 = at_most (slice_index encoded 23) 31 (h 14 (byte 0 Any) (lit< tt)) in
    let tac : (slice_index encoded 30) ≤ 7 = at_most (slice_index encoded 30) 7 (h 20 (byte 0 Any) (lit< tt)) in
    let left : word_at encoded 33 ≤ 1024 = at_most (word_at encoded 33) 1024 (h 23 (byte 0 Any) (lit< tt)) in
    let copied : (slice_index encoded 36) ≤ 160 = at_most (slice_index encoded 36) 160 (h 25 (byte 0 Any) (lit< tt)) in
    let line : (slice_index encoded 47) ≤ 153 = at_most (slice_index encoded 47) 153 (h 36 (byte 0 Any) (lit< tt)) in
    let cycle : (slice_index encoded 48) ≤ 113 = at_most (slice_index encoded 48) 113 (h 37 (byte 0 Any) (lit< tt)) in
    record {
      overrun = omega arith;
      bus = record {
        ie = fit 22;
        interrupt_flag = omega arith;
        buttons = fit 24;
        p1_select = select_is (slice_index encoded 25) (fit 25) ∙ only_bits (slice_index encoded 25) 0x30 (h 16 (byte 0 Any) (lit< tt));
        timer = record { counter = word_fits encoded 26 fit; tima = fit 28; tma = fit 29; tac = omega arith };
        serial = record { sb = fit 31; sc = sc_is (slice_index encoded 32) (fit 32) ∙ only_bits (slice_index encoded 32) 0x81 (h 22 (byte 0 Any) (lit< tt)); cycles_left = left };
        dma = fit 35;
        dma_copied = omega arith;
        picture = record {
          lcdc = fit 37;
          stat = sym (stat_is (slice_index encoded 38) (fit 38) ∙ only_bits (slice_index encoded 38) 0x78 (h 27 (byte 0 Any) (lit< tt)));
          scy = fit 39;
          scx = fit 40;
          lyc = fit 41;
          bgp = fit 42;
          obp0 = fit 43;
          obp1 = fit 44;
          wy = fit 45;
          wx = fit 46;
          ly = omega arith;
          m_cycle = omega arith;
          window_counter = fit 49;
        };
        banks = banks_in cartridge.state.kind cartridge.rumble ram encoded fit h;
      };
    }

magic_parts : (encoded : List ℕ) → is_legal (bytes 0 8 Magic) encoded ≡ true → (get_or encoded 0 0 ≡ 0x47) × (get_or encoded 1 0 ≡ 0x42) × (get_or encoded 2 0 ≡ 0x53) × (get_or encoded 3 0 ≡ 0x4E) × (get_or encoded 4 0 ≡ 0x41) × (get_or encoded 5 0 ≡ 0x50) × (get_or encoded 6 0 ≡ 0x30) × (get_or encoded 7 0 ≡ 0x31)
magic_parts encoded e =
    let p0 = and_parts _ _ e in
    let p1 = and_parts _ _ p0.1 in
    let p2 = and_parts _ _ p1.1 in
    let p3 = and_parts _ _ p2.1 in
    let p4 = and_parts _ _ p3.1 in
    let p5 = and_parts _ _ p4.1 in
    let p6 = and_parts _ _ p5.1 in
    (eqb-true _ _ p0.0, eqb-true _ _ p1.0, eqb-true _ _ p2.0, eqb-true _ _ p3.0, eqb-true _ _ p4.0, eqb-true _ _ p5.0, eqb-true _ _ p6.0, eqb-true _ _ p6.1)

pub fields_are : (kind : Controller) (rumble : Bool) (ram : ℕ) (encoded : List ℕ) → 67 ≤ length encoded → ((i : ℕ) → get_or encoded i 0 < 256) → AreLegalFields kind rumble ram encoded → AreFields kind encoded
unfolding table
fields_are kind rumble ram encoded long fit h =
    let state : (slice_index encoded 20) ≤ 63 = at_most (slice_index encoded 20) 63 (h 11 (byte 0 Any) (lit< tt)) in
    let seen : (slice_index encoded 50) ≤ 3 = at_most (slice_index encoded 50) 3 (h 39 (byte 0 Any) (lit< tt)) in
    let number = between_parts (kind_byte kind) (slice_index encoded 51) (kind_byte kind) (h 40 (byte 0 Any) (lit< tt)) in
    let enabled : (slice_index encoded 52) ≤ cond (has_ram_enable kind) 1 0 = at_most (slice_index encoded 52) (cond (has_ram_enable kind) 1 0) (h 41 (byte 0 Any) (lit< tt)) in
    let mode : (slice_index encoded 56) ≤ cond (has_mode kind) 1 0 = at_most (slice_index encoded 56) (cond (has_mode kind) 1 0) (h 44 (byte 0 Any) (lit< tt)) in
    record {
      long = long;
      fit = fit;
      magic = magic_parts encoded (h 0 (byte 0 Any) (lit< tt));
      flags = only_bits (slice_index encoded 9) 0xF0 (h 2 (byte 0 Any) (lit< tt));
      state = omega arith;
      seen = omega arith;
      kind_is = omega (arith, number.0, number.1);
      enabled = switch_small (has_ram_enable kind) (slice_index encoded 52) enabled;
      mode = switch_small (has_mode kind) (slice_index encoded 56) mode;
    }

pub unused_in : (kind : Controller) (rumble : Bool) (ram : ℕ) (encoded : List ℕ) → AreLegalFields kind rumble ram encoded → list_all (λ b. b == 0) (slice_range encoded 67 128) ≡ true
unfolding table
unused_in kind rumble ram encoded h = (h 55 (byte 0 Any) (lit< tt))

pub ram_in : (kind : Controller) (rumble : Bool) (ram : ℕ) (encoded : List ℕ) → AreLegalFields kind rumble ram encoded → is_legal (bytes 22607 ram (ram_rule kind)) encoded ≡ true
unfolding table
ram_in kind rumble ram encoded h = (h 62 (byte 0 Any) (lit< tt))

-- ---- the snapshot of legal registers

state_small : (s : ProcessorState) → processor_byte s ≤ 63
state_small s =
    let a = digit_small s.ime in
    let b = digit_small s.ime_pending in
    let c = digit_small s.halted in
    let d = digit_small s.stopped in
    let e = digit_small s.locked in
    let f = digit_small s.halt_bug in
    omega arith

seen_small : (seen signal : Bool) → picture_byte seen signal ≤ 3
seen_small seen signal =
    let a = digit_small seen in
    let b = digit_small signal in
    omega arith

kind_fits : (kind own : Controller) → own ≡ kind → (nat_le (kind_byte kind) (kind_byte own) && nat_le (kind_byte own) (kind_byte kind)) ≡ true
kind_fits kind own e = let same : kind_byte own ≡ kind_byte kind = ap kind_byte e in between_true (kind_byte kind) (kind_byte own) (kind_byte kind) (omega arith) (omega arith)

pub encoded_is_legal :
    (cartridge : CartridgeState) (ram : ℕ) (r : MachineWithoutMemory) (rest : List ℕ)
    → AreLegalFor cartridge r
    → list_all (λ b. b == 0) (slice_range (fixed_fields r ++ rest) 67 128) ≡ true
    → is_legal (bytes 22607 ram (ram_rule cartridge.state.kind)) (fixed_fields r ++ rest) ≡ true
    → AreLegalFields cartridge.state.kind cartridge.rumble ram (fixed_fields r ++ rest)
unfolding table
encoded_is_legal cartridge ram r rest l zeros half_bytes =
    let kind : Controller = cartridge.state.kind in
    let live : IsWithin (has_clock kind) r.bus.banks.clock = clock_within (has_clock kind) r.bus.banks.clock l.bus.banks.clock in
    let latched : IsWithin (has_clock kind) r.bus.banks.latched = clock_within (has_clock kind) r.bus.banks.latched l.bus.banks.latched in
    let p1_small : r.bus.p1_select < 256 = omega (arith, l.bus.p1_select) in
    let sc_small : r.bus.serial.sc < 256 = omega (arith, l.bus.serial.sc) in
    let stat_small : r.bus.picture.stat < 256 = omega (arith, l.bus.picture.stat) in
    All-from_recursion (λ field. is_legal field (fixed_fields r ++ rest) ≡ true) (table kind cartridge.rumble ram) (refl, (refl, (eq-eqb _ _ (flags_fit r.registers.flags), (refl, (refl, (refl, (refl, (refl, (refl, (refl, (refl, (up_to (processor_byte r.state) 63 (state_small r.state), (up_to r.overrun 5 (omega (arith, l.overrun)), (refl, (up_to r.bus.interrupt_flag 31 (omega (arith, l.bus.interrupt_flag)), (refl, (eq-eqb _ _ (sym (select_is r.bus.p1_select p1_small) ∙ l.bus.p1_select), (refl, (refl, (refl, (up_to r.bus.timer.tac 7 (omega (arith, l.bus.timer.tac)), (refl, (eq-eqb _ _ (sym (sc_is r.bus.serial.sc sc_small) ∙ l.bus.serial.sc), (rw (word_back r.bus.serial.cycles_left) (up_to r.bus.serial.cycles_left 1024 l.bus.serial.cycles_left), (refl, (up_to r.bus.dma_copied 160 (omega (arith, l.bus.dma_copied)), (refl, (eq-eqb _ _ (sym (stat_is r.bus.picture.stat stat_small) ∙ sym l.bus.picture.stat), (refl, (refl, (refl, (refl, (refl, (refl, (refl, (refl, (up_to r.bus.picture.ly 153 (omega (arith, l.bus.picture.ly)), (up_to r.bus.picture.m_cycle 113 (omega (arith, l.bus.picture.m_cycle)), (refl, (up_to (picture_byte r.bus.picture.seen r.bus.picture.signal) 3 (seen_small r.bus.picture.seen r.bus.picture.signal), (kind_fits cartridge.state.kind r.bus.banks.kind l.bus.banks.kind, (up_to (digit_of r.bus.banks.ram_enabled) (cond (has_ram_enable kind) 1 0) (switch_fits (has_ram_enable kind) r.bus.banks.ram_enabled l.bus.banks.enable), (rw (word_back r.bus.banks.rom_bank) (between_true (first_rom_bank kind) r.bus.banks.rom_bank (last_rom_bank kind) l.bus.banks.first l.bus.banks.last), (up_to r.bus.banks.ram_bank (last_ram_bank kind cartridge.rumble) l.bus.banks.ram_bank, (up_to (digit_of r.bus.banks.mode) (cond (has_mode kind) 1 0) (switch_fits (has_mode kind) r.bus.banks.mode l.bus.banks.mode), (up_to r.bus.banks.clock.seconds (cond (has_clock kind) 63 0) live.seconds, (up_to r.bus.banks.clock.minutes (cond (has_clock kind) 63 0) live.minutes, (up_to r.bus.banks.clock.hours (cond (has_clock kind) 31 0) live.hours, (up_to r.bus.banks.clock.day_low (cond (has_clock kind) 255 0) live.day_low, (live.day_high, (up_to r.bus.banks.latched.seconds (cond (has_clock kind) 63 0) latched.seconds, (up_to r.bus.banks.latched.minutes (cond (has_clock kind) 63 0) latched.minutes, (up_to r.bus.banks.latched.hours (cond (has_clock kind) 31 0) latched.hours, (up_to r.bus.banks.latched.day_low (cond (has_clock kind) 255 0) latched.day_low, (latched.day_high, (zeros, (refl, (refl, (refl, (refl, (refl, (refl, (half_bytes, tt)))))))))))))))))))))))))))))))))))))))))))))))))))))))))))))))
