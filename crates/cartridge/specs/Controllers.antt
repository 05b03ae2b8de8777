-- The bank controller by the byte at 0147, how many banks of 16 KiB it reaches, and the bytes of cartridge RAM by the
-- byte at 0149: Pan Docs, "The Cartridge Header", "0147 - Cartridge type" and "0149 - RAM size", and the most ROM
-- that Pan Docs, "MBCs", names for each controller.
use Rattle.std.specs.Prelude.{ℕ, [], ◌∷◌, List, ◌==◌, ◌&&◌, ◌||◌, if◌then◌else◌, nat_le, Bool, Option, Some, None}
use Rattle.cartridge.specs.declared.controller.Controller.{Controller}
use Rattle.cartridge.specs.declared.controller.Controller.TheVariants.{NoMbc, Mbc1, Mbc2, Mbc3, Mbc3Clock, Mbc5}

abbrev pub is_from_to : ℕ → ℕ → ℕ → Bool
is_from_to low high n = nat_le low n && nat_le n high

abbrev pub controller_at : ℕ → Option Controller
controller_at kind =
    if kind == 0x00 || (kind == 0x08 || kind == 0x09) then Some NoMbc else
    (if is_from_to 0x01 0x03 kind then Some Mbc1 else
    (if kind == 0x05 || kind == 0x06 then Some Mbc2 else
    (if kind == 0x0F || kind == 0x10 then Some Mbc3Clock else
    (if is_from_to 0x11 0x13 kind then Some Mbc3 else
    (if is_from_to 0x19 0x1E kind then Some Mbc5 else None)))))

-- what keeps its RAM when the power is off: MBC1, MBC2, no controller, MBC3 with its clock and without, MBC5 and MBC5 with rumble
abbrev pub is_battery_kind : ℕ → Bool
is_battery_kind kind =
    kind == 0x03 || (kind == 0x06 || (kind == 0x09 || (kind == 0x0F || (kind == 0x10 || (kind == 0x13 || (kind == 0x1B || kind == 0x1E))))))

-- MBC5 with a rumble motor
abbrev pub is_rumble_kind : ℕ → Bool
is_rumble_kind kind = is_from_to 0x1C 0x1E kind

-- An MBC1 of several games is an MBC1 as any other, and an MBC3 has at most 128 banks (fixed profile).
abbrev pub most_banks_of : Controller → ℕ
most_banks_of NoMbc = 2
most_banks_of Mbc1 = 128
most_banks_of Mbc2 = 16
most_banks_of Mbc3 = 128
most_banks_of Mbc3Clock = 128
most_banks_of Mbc5 = 512

-- none, 8 KiB, 32 KiB, 128 KiB or 64 KiB; code 01 is listed as unused
abbrev pub coded_ram : ℕ → Option ℕ
coded_ram code =
    if code == 0x00 then Some 0 else
    (if code == 0x02 then Some 8192 else
    (if code == 0x03 then Some 32768 else
    (if code == 0x04 then Some 131072 else
    (if code == 0x05 then Some 65536 else None))))

-- MBC2 has 512 half bytes of its own, whatever the code is; the code counts for every other type (fixed profile)
abbrev pub ram_of : Controller → ℕ → Option ℕ
ram_of NoMbc code = coded_ram code
ram_of Mbc1 code = coded_ram code
ram_of Mbc2 code = Some 512
ram_of Mbc3 code = coded_ram code
ram_of Mbc3Clock code = coded_ram code
ram_of Mbc5 code = coded_ram code

-- every length that cartridge RAM has
abbrev pub ram_lengths : List ℕ
ram_lengths = 0 ∷ 512 ∷ 8192 ∷ 32768 ∷ 65536 ∷ 131072 ∷ []
