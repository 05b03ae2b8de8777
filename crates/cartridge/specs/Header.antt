-- The header of an image: Pan Docs, "The Cartridge Header".
use Rattle.std.specs.Prelude.{ℕ, ◌+◌, ◌-◌, ◌/◌, ◌%◌, ◌==◌, Bool, List, length, slice_index, slice_range, Option, fold}
use Rattle.std.specs.List.{before_first}
use Rattle.std.specs.Option.{unwrap_or, option_and_then, option_map_or}
use Rattle.cartridge.specs.declared.controller.Controller.{Controller}
use Rattle.cartridge.specs.Controllers.{controller_at, is_battery_kind, is_rumble_kind, most_banks_of, ram_of}

-- 0134 to 0143, before the first 00
abbrev pub title_of : List ℕ → List ℕ
title_of image = before_first (λ byte. byte == 0) (slice_range image 0x134 0x144)

abbrev pub kind_of : List ℕ → ℕ
kind_of image = slice_index image 0x147

abbrev pub rom_code_of : List ℕ → ℕ
rom_code_of image = slice_index image 0x148

abbrev pub ram_code_of : List ℕ → ℕ
ram_code_of image = slice_index image 0x149

abbrev pub stored_checksum_of : List ℕ → ℕ
stored_checksum_of image = slice_index image 0x14D

-- from 0, less each byte and less 1, modulo 256: 512 is twice 256 and keeps the difference above 0
abbrev pub header_sum : List ℕ → ℕ
header_sum bytes = fold (λ sum byte. (sum + 512 - byte - 1) % 256) 0 bytes

-- over 0134 to 014C
abbrev pub checksum_of : List ℕ → ℕ
checksum_of image = header_sum (slice_range image 0x134 0x14D)

abbrev pub controller_of : List ℕ → Option Controller
controller_of image = controller_at (kind_of image)

abbrev pub has_rumble : List ℕ → Bool
has_rumble image = is_rumble_kind (kind_of image)

-- whether the cartridge keeps its RAM when the power is off
abbrev pub has_battery : List ℕ → Bool
has_battery image = is_battery_kind (kind_of image)

-- banks of 16 KiB
abbrev pub banks_of : List ℕ → ℕ
banks_of image = length image / 16384

-- how many banks an image of this type may have
abbrev pub most_banks : List ℕ → ℕ
most_banks image = option_map_or most_banks_of (controller_of image) 0

-- the bytes of RAM that the header asks for, where its type and RAM code are known
abbrev pub asked_ram : List ℕ → Option ℕ
asked_ram image = option_and_then (λ c. ram_of c (ram_code_of image)) (controller_of image)

abbrev pub ram_length_of : List ℕ → ℕ
ram_length_of image = unwrap_or (asked_ram image) 0
