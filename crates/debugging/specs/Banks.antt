-- Which bank is mapped at an address: Pan Docs, "MBCs" and its pages on each controller.
use Rattle.std.specs.Prelude.{ℕ, ◌/◌}
use Rattle.bank_controllers.specs.Places.{Place, Rom, Ram, HalfByte, Register, Nowhere}
use Rattle.bank_controllers.specs.CartridgeState.{place_of}
use Rattle.memory_map.specs.State.{BusState}

-- the number of the bank that a byte is in: of 16 KiB in ROM, of 8 KiB in cartridge RAM. MBC2 has one of RAM; a register of the clock, and what
-- is nowhere, are in none, which is told as 0
abbrev pub bank_of : Place → ℕ
bank_of (Rom offset) = offset / 16384
bank_of (Ram offset) = offset / 8192
bank_of (HalfByte offset) = 0
bank_of (Register register) = 0
bank_of Nowhere = 0

-- 0 for all that is no part of the cartridge
abbrev pub bank_at : BusState → (address : ℕ) → ℕ
bank_at b address = bank_of (place_of b.banks address)
