-- The line of registers.
use Rattle.std.specs.Prelude.{ℕ, List, ◌++◌, codes, if◌then◌else◌}
use Rattle.exact_text.specs.Hex.{byte_text, word_text}
use Rattle.sm83_alu.specs.Flags.{flags_byte}
use Rattle.sm83_processor.specs.declared.processor.Processor.{Processor}

unfoldable pub register_line : {M : Type 0} → Processor M → List ℕ
register_line p = let r = p.registers in
    codes "A=" ++ byte_text r.a ++ codes " F=" ++ byte_text (flags_byte r.flags) ++ codes " B=" ++ byte_text r.b ++ codes " C=" ++ byte_text r.c
    ++ codes " D=" ++ byte_text r.d ++ codes " E=" ++ byte_text r.e ++ codes " H=" ++ byte_text r.h ++ codes " L=" ++ byte_text r.l
    ++ codes " SP=" ++ word_text r.sp ++ codes " PC=" ++ word_text r.pc ++ (if p.state.ime then codes " IME=1\n" else codes " IME=0\n")
