use Rattle.std.proofs.Common.{◌≡◌, ◌∙◌, ◌++◌, refl}
use Rattle.commands.specs.Info.{checksum_line, info_of, ram_line, rom_line, sectors_line, title_line, type_line}
use Rattle.commands.proofs.HeaderLines.{of_six}
use Rattle.commands.proofs.info.info_text.Goals as goal

pub returns : goal.returns
unfolding info_of
returns c =
    let rom = c.args.cartridge.now in
    let text : c.push_str-6.new.self.bytes ≡ title_line rom ++ type_line rom ++ rom_line rom ++ ram_line rom ++ checksum_line rom ++ sectors_line rom =
    rw (c.push_str-6.ensures.bytes, c.push_str-5.ensures.bytes, c.push_str-4.ensures.bytes, c.push_str-3.ensures.bytes, c.push_str-2.ensures.bytes, c.push_str.ensures.bytes, c.new-text.ensures, c.as_str.ensures.value, c.title_text.ensures, c.as_str-2.ensures.value, c.type_text.ensures, c.as_str-3.ensures.value, c.rom_text.ensures, c.as_str-4.ensures.value, c.ram_text.ensures, c.as_str-5.ensures.value, c.checksum_text.ensures, c.as_str-6.ensures.value, c.sectors_text.ensures) refl in
    text ∙ of_six (title_line rom) (type_line rom) (rom_line rom) (ram_line rom) (checksum_line rom) (sectors_line rom)
