use Rattle.std.proofs.Common.{◌≡◌, ◌∙◌, ◌++◌, codes, decimal, refl}
use Rattle.cartridge.specs.Header.{ram_code_of, ram_length_of}
use Rattle.exact_text.specs.Hex.{byte_text}
use Rattle.commands.proofs.HeaderLines.{of_five}
use Rattle.commands.proofs.info.ram_text.Goals as goal

pub returns : goal.returns
returns c =
    let rom = c.args.cartridge.now in
    let text : c.push_str-5.new.self.bytes ≡ codes "ram " ++ decimal (ram_length_of rom) ++ codes " bytes code " ++ byte_text (ram_code_of rom) ++ codes "\n" =
    rw (c.push_str-5.ensures.bytes, c.push_str-4.ensures.bytes, c.push_str-3.ensures.bytes, c.push_str-2.ensures.bytes, c.push_str.ensures.bytes, c.new-text.ensures, c.as_str.ensures.value, c.number_digits.ensures.digits, c.ram_length.ensures.header, c.as_str-2.ensures.value, c.byte_digits.ensures.digits, c.ram_code.ensures) refl in
    text ∙ of_five (codes "ram ") (decimal (ram_length_of rom)) (codes " bytes code ") (byte_text (ram_code_of rom)) (codes "\n")
