-- Which banks the registers show, and so the place of each address: Pan Docs, "MBCs" and its pages on each controller.
-- Every bank number counts modulo the banks that are present.
use Rattle.std.specs.Prelude.{ℕ, ◌+◌, ◌*◌, ◌/◌, ◌%◌, Bool, true, ◌==◌, nat_lt, if◌then◌else◌}
use Rattle.cartridge.specs.declared.controller.Controller.{Controller}
use Rattle.cartridge.specs.declared.controller.Controller.TheVariants.{NoMbc, Mbc1, Mbc2, Mbc3, Mbc3Clock, Mbc5}
use Rattle.bank_controllers.specs.declared.clock.ClockRegister.{ClockRegister}
use Rattle.bank_controllers.specs.declared.clock.ClockRegister.TheVariants.{Seconds, Minutes, Hours, DayLow, DayHigh}
use Rattle.bank_controllers.specs.declared.state.BanksState.{BanksState}

-- a store and an offset in it
pub data Place : Type 0 where
  Rom : ℕ → Place
  Ram : ℕ → Place
  HalfByte : ℕ → Place
  Register : ClockRegister → Place
  Nowhere : Place

-- ---- ROM

-- at 0000-3FFF
abbrev pub low_bank_of : Controller → BanksState → ℕ
low_bank_of NoMbc s = 0
low_bank_of Mbc1 s = if s.mode then 32 * s.ram_bank else 0
low_bank_of Mbc2 s = 0
low_bank_of Mbc3 s = 0
low_bank_of Mbc3Clock s = 0
low_bank_of Mbc5 s = 0

-- at 4000-7FFF
abbrev pub high_bank_of : Controller → BanksState → ℕ
high_bank_of NoMbc s = 1
high_bank_of Mbc1 s = 32 * s.ram_bank + s.rom_bank
high_bank_of Mbc2 s = s.rom_bank
high_bank_of Mbc3 s = s.rom_bank
high_bank_of Mbc3Clock s = s.rom_bank
high_bank_of Mbc5 s = s.rom_bank

-- where bank n of 16 KiB begins, in a ROM of this many bytes
abbrev pub rom_bank_start : ℕ → ℕ → ℕ
rom_bank_start rom n = 16384 * (n % (rom / 16384))

unfoldable pub low_start : ℕ → BanksState → ℕ
low_start rom s = rom_bank_start rom (low_bank_of s.kind s)

unfoldable pub high_start : ℕ → BanksState → ℕ
high_start rom s = rom_bank_start rom (high_bank_of s.kind s)

-- ---- A000-BFFF

-- an offset in bank n of 8 KiB, of this many bytes of RAM, where there is a bank at all
abbrev pub in_ram_bank : (ram n offset : ℕ) → Place
in_ram_bank ram n offset = if nat_lt ram 8192 then Nowhere else Ram (8192 * (n % (ram / 8192)) + offset)

-- 0 to 7 select a RAM bank on every MBC3, and there is nothing beyond the clock's registers (fixed profile)
abbrev pub in_mbc3 : (ram select offset : ℕ) → Place
in_mbc3 ram select offset = if nat_lt select 8 then in_ram_bank ram select offset else Nowhere

abbrev pub in_clock : (select : ℕ) → Place
in_clock select =
    if select == 8 then Register Seconds else
    (if select == 9 then Register Minutes else
    (if select == 10 then Register Hours else
    (if select == 11 then Register DayLow else
    (if select == 12 then Register DayHigh else Nowhere))))

-- at this distance from A000, of enabled RAM; MBC2 has 512 half bytes, again and again
abbrev pub in_enabled_ram : Controller → (ram : ℕ) → BanksState → (offset : ℕ) → Place
in_enabled_ram NoMbc ram s offset = in_ram_bank ram 0 offset
in_enabled_ram Mbc1 ram s offset = in_ram_bank ram (if s.mode then s.ram_bank else 0) offset
in_enabled_ram Mbc2 ram s offset = HalfByte (offset % 512)
in_enabled_ram Mbc3 ram s offset = in_mbc3 ram s.ram_bank offset
in_enabled_ram Mbc3Clock ram s offset = if nat_lt s.ram_bank 8 then in_ram_bank ram s.ram_bank offset else in_clock s.ram_bank
in_enabled_ram Mbc5 ram s offset = in_ram_bank ram s.ram_bank offset

-- RAM without controller is always enabled (fixed profile)
abbrev pub is_ram_enabled : Controller → BanksState → Bool
is_ram_enabled NoMbc s = true
is_ram_enabled Mbc1 s = s.ram_enabled
is_ram_enabled Mbc2 s = s.ram_enabled
is_ram_enabled Mbc3 s = s.ram_enabled
is_ram_enabled Mbc3Clock s = s.ram_enabled
is_ram_enabled Mbc5 s = s.ram_enabled

-- the place at this distance from A000
unfoldable pub in_ram : (ram : ℕ) → BanksState → (offset : ℕ) → Place
in_ram ram s offset = if is_ram_enabled s.kind s then in_enabled_ram s.kind ram s offset else Nowhere
