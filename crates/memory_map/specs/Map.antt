-- The memory map: Pan Docs, "Memory Map" and "I/O Ranges".
use Rattle.std.specs.Prelude.{ℕ, ◌+◌, ◌-◌, ◌%◌, nat_lt, if◌then◌else◌}
use Rattle.memory_map.specs.declared.place.Place.{Place}
use Rattle.memory_map.specs.declared.place.Place.TheVariants.{Cartridge, Vram, Wram, Oam, Unused, Sound, Register, Hram, InterruptEnable}

-- the next address; after FFFF comes 0000
abbrev pub address_after : ℕ → ℕ
address_after a = (a + 1) % 65536

-- the address before; before 0000 comes FFFF
abbrev pub address_before : ℕ → ℕ
address_before a = (a + (65536 - 1)) % 65536

-- the place that an address names. The cartridge and the registers go by the address itself, every other place by its
-- offset. E000-FDFF are an echo of C000-DDFF.
abbrev pub place : ℕ → Place
place a =
    if nat_lt a 0x8000 then Cartridge a else
    (if nat_lt a 0xA000 then Vram (a - 0x8000) else
    (if nat_lt a 0xC000 then Cartridge a else
    (if nat_lt a 0xE000 then Wram (a - 0xC000) else
    (if nat_lt a 0xFE00 then Wram (a - 0xE000) else
    (if nat_lt a 0xFEA0 then Oam (a - 0xFE00) else
    (if nat_lt a 0xFF00 then Unused else
    (if nat_lt a 0xFF10 then Register a else
    (if nat_lt a 0xFF40 then Sound (a - 0xFF10) else
    (if nat_lt a 0xFF80 then Register a else
    (if nat_lt a 0xFFFF then Hram (a - 0xFF80) else InterruptEnable))))))))))
