use Rattle.std.proofs.Common.{◌≡◌, ◌∙◌, ◌++◌, codes, decimal, length, refl}
use Rattle.cartridge.specs.Header.{banks_of, rom_code_of}
use Rattle.exact_text.specs.Hex.{byte_text}
use Rattle.commands.proofs.HeaderLines.{of_seven}
use Rattle.commands.proofs.info.rom_text.Goals as goal

pub returns : goal.returns
returns c =
    let rom = c.args.cartridge.now in
    let text : c.push_str-7.new.self.bytes ≡ codes "rom " ++ decimal (length rom) ++ codes " bytes " ++ decimal (banks_of rom) ++ codes " banks code " ++ byte_text (rom_code_of rom) ++ codes "\n" =
    rw (c.push_str-7.ensures.bytes, c.push_str-6.ensures.bytes, c.push_str-5.ensures.bytes, c.push_str-4.ensures.bytes, c.push_str-3.ensures.bytes, c.push_str-2.ensures.bytes, c.push_str.ensures.bytes, c.new-text.ensures, c.as_str.ensures.value, c.number_digits.ensures.digits, c.rom.ensures.image, c.as_str-2.ensures.value, c.number_digits-2.ensures.digits, c.from.ensures, c.banks.ensures.count, c.as_str-3.ensures.value, c.byte_digits.ensures.digits, c.rom_code.ensures) refl in
    text ∙ of_seven (codes "rom ") (decimal (length rom)) (codes " bytes ") (decimal (banks_of rom)) (codes " banks code ") (byte_text (rom_code_of rom)) (codes "\n")
