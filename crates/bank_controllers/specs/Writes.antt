-- What a write of a value below 8000 does to the registers.
use Rattle.std.specs.Prelude.{ℕ, ◌+◌, ◌*◌, ◌/◌, ◌%◌, Bool, true, false, ◌&&◌, ◌==◌, nat_lt, if◌then◌else◌}
use Rattle.cartridge.specs.declared.controller.Controller.{Controller}
use Rattle.cartridge.specs.declared.controller.Controller.TheVariants.{NoMbc, Mbc1, Mbc2, Mbc3, Mbc3Clock, Mbc5}
use Rattle.bank_controllers.specs.declared.state.BanksState.{BanksState}

-- RAM is enabled by a low half byte A and disabled by any other, on all four controllers (fixed profile)
abbrev pub is_enabling : ℕ → Bool
is_enabling value = value % 16 == 10

-- a bank number of a register that turns 0 into 1, before the banks present are looked at
abbrev pub from_one : ℕ → ℕ
from_one bank = if bank == 0 then 1 else bank

-- Pan Docs, "MBC1", "Registers"
abbrev pub mbc1_written : ℕ → ℕ → BanksState → BanksState
mbc1_written address value s =
    if nat_lt address 0x2000 then record s { ram_enabled = is_enabling value } else
    (if nat_lt address 0x4000 then record s { rom_bank = from_one (value % 32) } else
    (if nat_lt address 0x6000 then record s { ram_bank = value % 4 } else record s { mode = value % 2 == 1 }))

-- Pan Docs, "MBC2", "Registers": bit 8 of the address tells the two registers apart
abbrev pub mbc2_written : ℕ → ℕ → BanksState → BanksState
mbc2_written address value s =
    if nat_lt address 0x4000
    then (if address / 256 % 2 == 0 then record s { ram_enabled = is_enabling value } else record s { rom_bank = from_one (value % 16) })
    else s

-- Pan Docs, "MBC3", "Memory": the registers below 6000
abbrev pub mbc3_banks_written : ℕ → ℕ → BanksState → BanksState
mbc3_banks_written address value s =
    if nat_lt address 0x2000 then record s { ram_enabled = is_enabling value } else
    (if nat_lt address 0x4000 then record s { rom_bank = from_one (value % 128) } else
    (if nat_lt address 0x6000 then record s { ram_bank = value % 16 } else s))

-- Pan Docs, "MBC3", "6000-7FFF - Latch Clock Data": 00 arms, 01 copies while armed, and any write other than 00
-- disarms (fixed profile)
abbrev pub latch_written : ℕ → BanksState → BanksState
latch_written value s =
    if value == 0 then record s { mode = true } else
    (if s.mode && value == 1 then record s { mode = false; latched = s.clock } else record s { mode = false })

abbrev pub mbc3_clock_written : ℕ → ℕ → BanksState → BanksState
mbc3_clock_written address value s =
    if nat_lt address 0x6000 then mbc3_banks_written address value s else latch_written value s

-- Pan Docs, "MBC5", "Registers" and "Rumble"
abbrev pub mbc5_written : Bool → ℕ → ℕ → BanksState → BanksState
mbc5_written rumble address value s =
    if nat_lt address 0x2000 then record s { ram_enabled = is_enabling value } else
    (if nat_lt address 0x3000 then record s { rom_bank = 256 * (s.rom_bank / 256) + value } else
    (if nat_lt address 0x4000 then record s { rom_bank = 256 * (value % 2) + s.rom_bank % 256 } else
    (if nat_lt address 0x6000 then record s { ram_bank = if rumble then value % 8 else value % 16 } else s)))

abbrev pub register_written_by : Controller → Bool → ℕ → ℕ → BanksState → BanksState
register_written_by NoMbc rumble address value s = s
register_written_by Mbc1 rumble address value s = mbc1_written address value s
register_written_by Mbc2 rumble address value s = mbc2_written address value s
register_written_by Mbc3 rumble address value s = mbc3_banks_written address value s
register_written_by Mbc3Clock rumble address value s = mbc3_clock_written address value s
register_written_by Mbc5 rumble address value s = mbc5_written rumble address value s

unfoldable pub register_written : Bool → ℕ → ℕ → BanksState → BanksState
register_written rumble address value s = register_written_by s.kind rumble address value s
