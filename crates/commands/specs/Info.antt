-- The six lines about a cartridge.
use Rattle.std.specs.Prelude.{◌&&◌, ℕ, List, [], ◌++◌, codes, decimal, length, map, nat_le, if◌then◌else◌, Option, None, Some}
use Rattle.cartridge.specs.Header.{title_of, kind_of, rom_code_of, ram_code_of, stored_checksum_of, checksum_of, banks_of, ram_length_of, controller_of}
use Rattle.cartridge.specs.declared.controller.Controller.{Controller}
use Rattle.cartridge.specs.declared.controller.Controller.TheVariants.{NoMbc, Mbc1, Mbc2, Mbc3, Mbc3Clock, Mbc5}
use Rattle.exact_text.specs.Hex.{byte_text}
use Rattle.snapshot.specs.Encoding.{snapshot_length}
use Rattle.log_format.specs.Content.{need}

-- a byte of a title; one that ASCII does not print as a full stop
abbrev pub shown : ℕ → ℕ
shown byte = if nat_le 0x20 byte && nat_le byte 0x7E then byte else 46

abbrev pub name_of : Controller → List ℕ
name_of NoMbc = codes "none"
name_of Mbc1 = codes "MBC1"
name_of Mbc2 = codes "MBC2"
name_of Mbc3 = codes "MBC3"
name_of Mbc3Clock = codes "MBC3+clock"
name_of Mbc5 = codes "MBC5"

-- of a type that no controller has, nothing
abbrev pub name_shown : Option Controller → List ℕ
name_shown (Some controller) = name_of controller
name_shown None = []

abbrev pub title_line : List ℕ → List ℕ
title_line rom = codes "title [" ++ (map shown (title_of rom) ++ codes "]\n")

abbrev pub type_line : List ℕ → List ℕ
type_line rom = codes "type " ++ (byte_text (kind_of rom) ++ (codes " " ++ (name_shown (controller_of rom) ++ codes "\n")))

abbrev pub rom_line : List ℕ → List ℕ
rom_line rom = codes "rom " ++ (decimal (length rom) ++ (codes " bytes " ++ (decimal (banks_of rom) ++ (codes " banks code " ++ (byte_text (rom_code_of rom) ++ codes "\n")))))

abbrev pub ram_line : List ℕ → List ℕ
ram_line rom = codes "ram " ++ (decimal (ram_length_of rom) ++ (codes " bytes code " ++ (byte_text (ram_code_of rom) ++ codes "\n")))

abbrev pub checksum_line : List ℕ → List ℕ
checksum_line rom = codes "checksum stored " ++ (byte_text (stored_checksum_of rom) ++ (codes " computed " ++ (byte_text (checksum_of rom) ++ codes "\n")))

-- how many sectors a save file of this game needs
abbrev pub sectors_line : List ℕ → List ℕ
sectors_line rom = codes "sectors " ++ (decimal (need (snapshot_length (ram_length_of rom))) ++ codes "\n")

unfoldable pub info_of : List ℕ → List ℕ
info_of rom = title_line rom ++ (type_line rom ++ (rom_line rom ++ (ram_line rom ++ (checksum_line rom ++ sectors_line rom))))
