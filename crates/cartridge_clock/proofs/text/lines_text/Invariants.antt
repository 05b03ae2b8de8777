use Rattle.std.proofs.Common.{◌≡◌, ◌*◌, ◌≤◌, take}
use Rattle.arrayvec.specs.ArrayString.{array_string_len}
use Rattle.cartridge_clock.specs.Texts.{text_of}
use Rattle.cartridge_clock.proofs.text.lines_text.Given as goal

abbrev pub invariant-loop-line : goal.invariant-loop-line
invariant-loop-line l = (l.text.bytes ≡ text_of (take l.line-index l.lines)) × (array_string_len l.text ≤ 48 * l.line-index)
