-- Reads of ROM.
use Rattle.std.proofs.Common.{◌≡◌, ℕ, ◌+◌, ◌-◌, ◌<◌, ◌≤◌, length, true, false, arith, refl, ltb}
use Rattle.std.specs.Prelude.{slice_index}
use Rattle.std.proofs.lemmas.Bool.Decides.{nat_tests}
use Rattle.bank_controllers.specs.Places.{low_start, high_start}
use Rattle.bank_controllers.specs.CartridgeState.{CartridgeState, place_of, read_at}

pub read_low : (b : CartridgeState) (address : ℕ) → address < 0x4000 → read_at b address ≡ slice_index b.rom (low_start (length b.rom) b.state + address)
unfolding read_at place_of
read_low b address within =
    let low : ltb address 0x4000 ≡ true = grind (arith, nat_tests) in
    rw low refl

pub read_high : (b : CartridgeState) (address : ℕ) → 0x4000 ≤ address → address < 0x8000 → read_at b address ≡ slice_index b.rom (high_start (length b.rom) b.state + (address - 0x4000))
unfolding read_at place_of
read_high b address from within =
    let low : ltb address 0x4000 ≡ false = grind (arith, nat_tests) in
    let high : ltb address 0x8000 ≡ true = grind (arith, nat_tests) in
    rw (low, high) refl
