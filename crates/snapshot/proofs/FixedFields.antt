-- The registers of a snapshot, and the snapshot of registers.
use Rattle.std.proofs.Common.{◌≡◌, ℕ, ◌<◌, ◌≤◌, List, ◌++◌, length, take, length-take, get_or, get_or-take, refl, sym, ◌∙◌, arith}
use Rattle.std.specs.Prelude.{bit_and, map}
use Rattle.std.specs.List.{range_with_len}
use Rattle.std.proofs.lemmas.List.FromFn.{fill_by_all}
use Rattle.cartridge.specs.declared.controller.Controller.{Controller}
use Rattle.machine.specs.declared.machine_without_memory.MachineWithoutMemory.{MachineWithoutMemory}
use Rattle.snapshot.specs.Encoding.{fixed_fields, kind_byte}
use Rattle.snapshot.specs.Reading.{registers_in}
use Rattle.snapshot.proofs.Bytes.{word_back, low_back, high_back, digit_test, test_digit, six_back, six_again, two_back, two_again, flags_back, flags_again}

-- the registers of registers' bytes
pub registers_back : (kind : Controller) (m : MachineWithoutMemory) (rest : List ℕ) → kind ≡ m.bus.banks.kind → registers_in kind (fixed_fields m ++ rest) ≡ m
registers_back kind m rest same =
    let two = two_back m.bus.picture.seen m.bus.picture.signal in
    let six = six_back m.state.ime m.state.ime_pending m.state.halted m.state.stopped m.state.locked m.state.halt_bug in
    rw (
      same,
      flags_back m.registers.flags,
      word_back m.registers.sp,
      word_back m.registers.pc,
      six.0,
      six.1,
      six.2,
      six.3,
      six.4,
      six.5,
      word_back m.bus.timer.counter,
      word_back m.bus.serial.cycles_left,
      two.0,
      two.1,
      digit_test m.bus.banks.ram_enabled,
      word_back m.bus.banks.rom_bank,
      digit_test m.bus.banks.mode,
    ) refl

-- what the first 67 bytes have to be, so that they are the bytes of their registers
pub record AreFields (kind : Controller) (bytes : List ℕ) : Type 0 where
  pub long : 67 ≤ length bytes
  pub fit : (i : ℕ) → get_or bytes i 0 < 256
  pub magic : (get_or bytes 0 0 ≡ 0x47) × (get_or bytes 1 0 ≡ 0x42) × (get_or bytes 2 0 ≡ 0x53) × (get_or bytes 3 0 ≡ 0x4E) × (get_or bytes 4 0 ≡ 0x41) × (get_or bytes 5 0 ≡ 0x50) × (get_or bytes 6 0 ≡ 0x30) × (get_or bytes 7 0 ≡ 0x31)
  pub flags : bit_and (get_or bytes 9 0) 0xF0 ≡ get_or bytes 9 0
  pub state : get_or bytes 20 0 < 64
  pub seen : get_or bytes 50 0 < 4
  pub kind_is : get_or bytes 51 0 ≡ kind_byte kind
  pub enabled : get_or bytes 52 0 < 2
  pub mode : get_or bytes 56 0 < 2

pub registers_again : (kind : Controller) (bytes : List ℕ) → AreFields kind bytes → fixed_fields (registers_in kind bytes) ≡ take 67 bytes
registers_again kind bytes h =
    let front : length (take 67 bytes) ≡ 67 = omega (arith, length-take {A = ℕ} 67 bytes, h.long) in
    let cells : take 67 bytes ≡ map (λ k. get_or bytes k 0) (range_with_len 0 67) = fill_by_all (λ k. get_or bytes k 0) (take 67 bytes) 67 0 front (λ k lt. get_or-take 67 bytes k 0 lt) in
    let m = h.magic in
    let same : fixed_fields (registers_in kind bytes) ≡ map (λ k. get_or bytes k 0) (range_with_len 0 67) =
    rw (
      m.0,
      m.1,
      m.2,
      m.3,
      m.4,
      m.5,
      m.6,
      m.7,
      flags_again (get_or bytes 9 0) (h.fit 9) h.flags,
      low_back (get_or bytes 16 0) (get_or bytes 17 0) (h.fit 16),
      high_back (get_or bytes 16 0) (get_or bytes 17 0) (h.fit 16),
      low_back (get_or bytes 18 0) (get_or bytes 19 0) (h.fit 18),
      high_back (get_or bytes 18 0) (get_or bytes 19 0) (h.fit 18),
      six_again (get_or bytes 20 0) h.state,
      low_back (get_or bytes 26 0) (get_or bytes 27 0) (h.fit 26),
      high_back (get_or bytes 26 0) (get_or bytes 27 0) (h.fit 26),
      low_back (get_or bytes 33 0) (get_or bytes 34 0) (h.fit 33),
      high_back (get_or bytes 33 0) (get_or bytes 34 0) (h.fit 33),
      two_again (get_or bytes 50 0) h.seen,
      sym h.kind_is,
      test_digit (get_or bytes 52 0) h.enabled,
      low_back (get_or bytes 53 0) (get_or bytes 54 0) (h.fit 53),
      high_back (get_or bytes 53 0) (get_or bytes 54 0) (h.fit 53),
      test_digit (get_or bytes 56 0) h.mode,
    ) refl in
    same ∙ sym cells
