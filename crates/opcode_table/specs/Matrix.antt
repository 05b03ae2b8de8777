-- The instructions by opcode, in the order of the manual's table, four a line: Pan Docs, "CPU Instruction Set". A public function states
-- that the table by fields (`Table.antt`, `Text.antt`, `Timing.antt`) is the same.
use Rattle.std.specs.Prelude.{◌≡◌, ℕ, ◌+◌, ◌==◌, List, [], ◌∷◌, ◌++◌, length, Bool, true, false, if◌then◌else◌, codes}
use Rattle.exact_text.specs.Hex.{byte_text, word_text}
use Rattle.opcode_table.specs.Table.{word_of}
use Rattle.opcode_table.specs.Text.{offset_text, text_of}
use Rattle.opcode_table.specs.Timing.{decoded_of}

-- ---- the opcodes but CB

-- its text, its bytes, and its M-cycles where a condition does not hold and where it does. In a text `#` is n8, `@` is n16 and `~` is e.
pub record OpcodeRow : Type 0 where
  pub text : List ℕ
  pub length : ℕ
  pub cycles : ℕ
  pub taken : ℕ

abbrev pub row : List ℕ → ℕ → ℕ → ℕ → OpcodeRow
row text length cycles taken = record { text = text; length = length; cycles = cycles; taken = taken }

-- 00 to 3F
unfoldable pub opcodes_00 : List OpcodeRow
opcodes_00 =
    row (codes "NOP") 1 1 1 ∷ row (codes "LD BC,@") 3 3 3 ∷ row (codes "LD (BC),A") 1 2 2 ∷ row (codes "INC BC") 1 2 2 ∷
    row (codes "INC B") 1 1 1 ∷ row (codes "DEC B") 1 1 1 ∷ row (codes "LD B,#") 2 2 2 ∷ row (codes "RLCA") 1 1 1 ∷
    row (codes "LD (@),SP") 3 5 5 ∷ row (codes "ADD HL,BC") 1 2 2 ∷ row (codes "LD A,(BC)") 1 2 2 ∷ row (codes "DEC BC") 1 2 2 ∷
    row (codes "INC C") 1 1 1 ∷ row (codes "DEC C") 1 1 1 ∷ row (codes "LD C,#") 2 2 2 ∷ row (codes "RRCA") 1 1 1 ∷
    row (codes "STOP") 2 1 1 ∷ row (codes "LD DE,@") 3 3 3 ∷ row (codes "LD (DE),A") 1 2 2 ∷ row (codes "INC DE") 1 2 2 ∷
    row (codes "INC D") 1 1 1 ∷ row (codes "DEC D") 1 1 1 ∷ row (codes "LD D,#") 2 2 2 ∷ row (codes "RLA") 1 1 1 ∷
    row (codes "JR ~") 2 3 3 ∷ row (codes "ADD HL,DE") 1 2 2 ∷ row (codes "LD A,(DE)") 1 2 2 ∷ row (codes "DEC DE") 1 2 2 ∷
    row (codes "INC E") 1 1 1 ∷ row (codes "DEC E") 1 1 1 ∷ row (codes "LD E,#") 2 2 2 ∷ row (codes "RRA") 1 1 1 ∷
    row (codes "JR NZ,~") 2 2 3 ∷ row (codes "LD HL,@") 3 3 3 ∷ row (codes "LD (HL+),A") 1 2 2 ∷ row (codes "INC HL") 1 2 2 ∷
    row (codes "INC H") 1 1 1 ∷ row (codes "DEC H") 1 1 1 ∷ row (codes "LD H,#") 2 2 2 ∷ row (codes "DAA") 1 1 1 ∷
    row (codes "JR Z,~") 2 2 3 ∷ row (codes "ADD HL,HL") 1 2 2 ∷ row (codes "LD A,(HL+)") 1 2 2 ∷ row (codes "DEC HL") 1 2 2 ∷
    row (codes "INC L") 1 1 1 ∷ row (codes "DEC L") 1 1 1 ∷ row (codes "LD L,#") 2 2 2 ∷ row (codes "CPL") 1 1 1 ∷
    row (codes "JR NC,~") 2 2 3 ∷ row (codes "LD SP,@") 3 3 3 ∷ row (codes "LD (HL-),A") 1 2 2 ∷ row (codes "INC SP") 1 2 2 ∷
    row (codes "INC (HL)") 1 3 3 ∷ row (codes "DEC (HL)") 1 3 3 ∷ row (codes "LD (HL),#") 2 3 3 ∷ row (codes "SCF") 1 1 1 ∷
    row (codes "JR C,~") 2 2 3 ∷ row (codes "ADD HL,SP") 1 2 2 ∷ row (codes "LD A,(HL-)") 1 2 2 ∷ row (codes "DEC SP") 1 2 2 ∷
    row (codes "INC A") 1 1 1 ∷ row (codes "DEC A") 1 1 1 ∷ row (codes "LD A,#") 2 2 2 ∷ row (codes "CCF") 1 1 1 ∷ []

-- 40 to 7F
unfoldable pub opcodes_40 : List OpcodeRow
opcodes_40 =
    row (codes "LD B,B") 1 1 1 ∷ row (codes "LD B,C") 1 1 1 ∷ row (codes "LD B,D") 1 1 1 ∷ row (codes "LD B,E") 1 1 1 ∷
    row (codes "LD B,H") 1 1 1 ∷ row (codes "LD B,L") 1 1 1 ∷ row (codes "LD B,(HL)") 1 2 2 ∷ row (codes "LD B,A") 1 1 1 ∷
    row (codes "LD C,B") 1 1 1 ∷ row (codes "LD C,C") 1 1 1 ∷ row (codes "LD C,D") 1 1 1 ∷ row (codes "LD C,E") 1 1 1 ∷
    row (codes "LD C,H") 1 1 1 ∷ row (codes "LD C,L") 1 1 1 ∷ row (codes "LD C,(HL)") 1 2 2 ∷ row (codes "LD C,A") 1 1 1 ∷
    row (codes "LD D,B") 1 1 1 ∷ row (codes "LD D,C") 1 1 1 ∷ row (codes "LD D,D") 1 1 1 ∷ row (codes "LD D,E") 1 1 1 ∷
    row (codes "LD D,H") 1 1 1 ∷ row (codes "LD D,L") 1 1 1 ∷ row (codes "LD D,(HL)") 1 2 2 ∷ row (codes "LD D,A") 1 1 1 ∷
    row (codes "LD E,B") 1 1 1 ∷ row (codes "LD E,C") 1 1 1 ∷ row (codes "LD E,D") 1 1 1 ∷ row (codes "LD E,E") 1 1 1 ∷
    row (codes "LD E,H") 1 1 1 ∷ row (codes "LD E,L") 1 1 1 ∷ row (codes "LD E,(HL)") 1 2 2 ∷ row (codes "LD E,A") 1 1 1 ∷
    row (codes "LD H,B") 1 1 1 ∷ row (codes "LD H,C") 1 1 1 ∷ row (codes "LD H,D") 1 1 1 ∷ row (codes "LD H,E") 1 1 1 ∷
    row (codes "LD H,H") 1 1 1 ∷ row (codes "LD H,L") 1 1 1 ∷ row (codes "LD H,(HL)") 1 2 2 ∷ row (codes "LD H,A") 1 1 1 ∷
    row (codes "LD L,B") 1 1 1 ∷ row (codes "LD L,C") 1 1 1 ∷ row (codes "LD L,D") 1 1 1 ∷ row (codes "LD L,E") 1 1 1 ∷
    row (codes "LD L,H") 1 1 1 ∷ row (codes "LD L,L") 1 1 1 ∷ row (codes "LD L,(HL)") 1 2 2 ∷ row (codes "LD L,A") 1 1 1 ∷
    row (codes "LD (HL),B") 1 2 2 ∷ row (codes "LD (HL),C") 1 2 2 ∷ row (codes "LD (HL),D") 1 2 2 ∷ row (codes "LD (HL),E") 1 2 2 ∷
    row (codes "LD (HL),H") 1 2 2 ∷ row (codes "LD (HL),L") 1 2 2 ∷ row (codes "HALT") 1 1 1 ∷ row (codes "LD (HL),A") 1 2 2 ∷
    row (codes "LD A,B") 1 1 1 ∷ row (codes "LD A,C") 1 1 1 ∷ row (codes "LD A,D") 1 1 1 ∷ row (codes "LD A,E") 1 1 1 ∷
    row (codes "LD A,H") 1 1 1 ∷ row (codes "LD A,L") 1 1 1 ∷ row (codes "LD A,(HL)") 1 2 2 ∷ row (codes "LD A,A") 1 1 1 ∷ []

-- 80 to BF
unfoldable pub opcodes_80 : List OpcodeRow
opcodes_80 =
    row (codes "ADD A,B") 1 1 1 ∷ row (codes "ADD A,C") 1 1 1 ∷ row (codes "ADD A,D") 1 1 1 ∷ row (codes "ADD A,E") 1 1 1 ∷
    row (codes "ADD A,H") 1 1 1 ∷ row (codes "ADD A,L") 1 1 1 ∷ row (codes "ADD A,(HL)") 1 2 2 ∷ row (codes "ADD A,A") 1 1 1 ∷
    row (codes "ADC A,B") 1 1 1 ∷ row (codes "ADC A,C") 1 1 1 ∷ row (codes "ADC A,D") 1 1 1 ∷ row (codes "ADC A,E") 1 1 1 ∷
    row (codes "ADC A,H") 1 1 1 ∷ row (codes "ADC A,L") 1 1 1 ∷ row (codes "ADC A,(HL)") 1 2 2 ∷ row (codes "ADC A,A") 1 1 1 ∷
    row (codes "SUB A,B") 1 1 1 ∷ row (codes "SUB A,C") 1 1 1 ∷ row (codes "SUB A,D") 1 1 1 ∷ row (codes "SUB A,E") 1 1 1 ∷
    row (codes "SUB A,H") 1 1 1 ∷ row (codes "SUB A,L") 1 1 1 ∷ row (codes "SUB A,(HL)") 1 2 2 ∷ row (codes "SUB A,A") 1 1 1 ∷
    row (codes "SBC A,B") 1 1 1 ∷ row (codes "SBC A,C") 1 1 1 ∷ row (codes "SBC A,D") 1 1 1 ∷ row (codes "SBC A,E") 1 1 1 ∷
    row (codes "SBC A,H") 1 1 1 ∷ row (codes "SBC A,L") 1 1 1 ∷ row (codes "SBC A,(HL)") 1 2 2 ∷ row (codes "SBC A,A") 1 1 1 ∷
    row (codes "AND A,B") 1 1 1 ∷ row (codes "AND A,C") 1 1 1 ∷ row (codes "AND A,D") 1 1 1 ∷ row (codes "AND A,E") 1 1 1 ∷
    row (codes "AND A,H") 1 1 1 ∷ row (codes "AND A,L") 1 1 1 ∷ row (codes "AND A,(HL)") 1 2 2 ∷ row (codes "AND A,A") 1 1 1 ∷
    row (codes "XOR A,B") 1 1 1 ∷ row (codes "XOR A,C") 1 1 1 ∷ row (codes "XOR A,D") 1 1 1 ∷ row (codes "XOR A,E") 1 1 1 ∷
    row (codes "XOR A,H") 1 1 1 ∷ row (codes "XOR A,L") 1 1 1 ∷ row (codes "XOR A,(HL)") 1 2 2 ∷ row (codes "XOR A,A") 1 1 1 ∷
    row (codes "OR A,B") 1 1 1 ∷ row (codes "OR A,C") 1 1 1 ∷ row (codes "OR A,D") 1 1 1 ∷ row (codes "OR A,E") 1 1 1 ∷
    row (codes "OR A,H") 1 1 1 ∷ row (codes "OR A,L") 1 1 1 ∷ row (codes "OR A,(HL)") 1 2 2 ∷ row (codes "OR A,A") 1 1 1 ∷
    row (codes "CP A,B") 1 1 1 ∷ row (codes "CP A,C") 1 1 1 ∷ row (codes "CP A,D") 1 1 1 ∷ row (codes "CP A,E") 1 1 1 ∷
    row (codes "CP A,H") 1 1 1 ∷ row (codes "CP A,L") 1 1 1 ∷ row (codes "CP A,(HL)") 1 2 2 ∷ row (codes "CP A,A") 1 1 1 ∷ []

-- C0 to CA
unfoldable pub opcodes_c0 : List OpcodeRow
opcodes_c0 =
    row (codes "RET NZ") 1 2 5 ∷ row (codes "POP BC") 1 3 3 ∷ row (codes "JP NZ,@") 3 3 4 ∷ row (codes "JP @") 3 4 4 ∷
    row (codes "CALL NZ,@") 3 3 6 ∷ row (codes "PUSH BC") 1 4 4 ∷ row (codes "ADD A,#") 2 2 2 ∷ row (codes "RST 00") 1 4 4 ∷
    row (codes "RET Z") 1 2 5 ∷ row (codes "RET") 1 4 4 ∷ row (codes "JP Z,@") 3 3 4 ∷ []

-- CC to FF
unfoldable pub opcodes_cc : List OpcodeRow
opcodes_cc =
    row (codes "CALL Z,@") 3 3 6 ∷ row (codes "CALL @") 3 6 6 ∷ row (codes "ADC A,#") 2 2 2 ∷ row (codes "RST 08") 1 4 4 ∷
    row (codes "RET NC") 1 2 5 ∷ row (codes "POP DE") 1 3 3 ∷ row (codes "JP NC,@") 3 3 4 ∷ row (codes "UNDEFINED D3") 1 1 1 ∷
    row (codes "CALL NC,@") 3 3 6 ∷ row (codes "PUSH DE") 1 4 4 ∷ row (codes "SUB A,#") 2 2 2 ∷ row (codes "RST 10") 1 4 4 ∷
    row (codes "RET C") 1 2 5 ∷ row (codes "RETI") 1 4 4 ∷ row (codes "JP C,@") 3 3 4 ∷ row (codes "UNDEFINED DB") 1 1 1 ∷
    row (codes "CALL C,@") 3 3 6 ∷ row (codes "UNDEFINED DD") 1 1 1 ∷ row (codes "SBC A,#") 2 2 2 ∷ row (codes "RST 18") 1 4 4 ∷
    row (codes "LDH (#),A") 2 3 3 ∷ row (codes "POP HL") 1 3 3 ∷ row (codes "LD (C),A") 1 2 2 ∷ row (codes "UNDEFINED E3") 1 1 1 ∷
    row (codes "UNDEFINED E4") 1 1 1 ∷ row (codes "PUSH HL") 1 4 4 ∷ row (codes "AND A,#") 2 2 2 ∷ row (codes "RST 20") 1 4 4 ∷
    row (codes "ADD SP,~") 2 4 4 ∷ row (codes "JP HL") 1 1 1 ∷ row (codes "LD (@),A") 3 4 4 ∷ row (codes "UNDEFINED EB") 1 1 1 ∷
    row (codes "UNDEFINED EC") 1 1 1 ∷ row (codes "UNDEFINED ED") 1 1 1 ∷ row (codes "XOR A,#") 2 2 2 ∷ row (codes "RST 28") 1 4 4 ∷
    row (codes "LDH A,(#)") 2 3 3 ∷ row (codes "POP AF") 1 3 3 ∷ row (codes "LD A,(C)") 1 2 2 ∷ row (codes "DI") 1 1 1 ∷
    row (codes "UNDEFINED F4") 1 1 1 ∷ row (codes "PUSH AF") 1 4 4 ∷ row (codes "OR A,#") 2 2 2 ∷ row (codes "RST 30") 1 4 4 ∷
    row (codes "LD HL,SP~") 2 3 3 ∷ row (codes "LD SP,HL") 1 2 2 ∷ row (codes "LD A,(@)") 3 4 4 ∷ row (codes "EI") 1 1 1 ∷
    row (codes "UNDEFINED FC") 1 1 1 ∷ row (codes "UNDEFINED FD") 1 1 1 ∷ row (codes "CP A,#") 2 2 2 ∷ row (codes "RST 38") 1 4 4 ∷ []

-- a text with the next bytes b and c in place of the signs
abbrev pub with_operands : (b c : ℕ) → List ℕ → List ℕ
with_operands b c [] = []
with_operands b c (k ∷ text) =
    (if k == 35 then byte_text b else if k == 64 then word_text (word_of b c) else if k == 126 then offset_text b else k ∷ [])
    ++ with_operands b c text

-- the instruction of these three bytes as a row
abbrev pub decoded_row : (opcode b c : ℕ) → OpcodeRow
decoded_row opcode b c = let d = decoded_of opcode b c in row (text_of d.instr) d.length d.cycles d.cycles_taken

-- the rows are those of the opcodes from this one on, whatever bytes stand after
abbrev pub AreRowsFrom : (opcode : ℕ) → List OpcodeRow → Type 0
AreRowsFrom opcode [] = Unit {0}
AreRowsFrom opcode (r ∷ rows) =
    ((b c : ℕ) → decoded_row opcode b c ≡ row (with_operands b c r.text) r.length r.cycles r.taken) × AreRowsFrom (opcode + 1) rows

-- ---- after CB

-- an operation: the text before its operand, and its M-cycles with a register and with the byte at HL
pub record CbRow : Type 0 where
  pub text : List ℕ
  pub cycles : ℕ
  pub at_hl : ℕ

abbrev pub cb_row : List ℕ → ℕ → ℕ → CbRow
cb_row text cycles at_hl = record { text = text; cycles = cycles; at_hl = at_hl }

-- eight bytes each, in this order of their operands
unfoldable pub cb_rows : List CbRow
cb_rows =
    cb_row (codes "RLC ") 2 4 ∷ cb_row (codes "RRC ") 2 4 ∷ cb_row (codes "RL ") 2 4 ∷ cb_row (codes "RR ") 2 4 ∷
    cb_row (codes "SLA ") 2 4 ∷ cb_row (codes "SRA ") 2 4 ∷ cb_row (codes "SWAP ") 2 4 ∷ cb_row (codes "SRL ") 2 4 ∷
    cb_row (codes "BIT 0,") 2 3 ∷ cb_row (codes "BIT 1,") 2 3 ∷ cb_row (codes "BIT 2,") 2 3 ∷ cb_row (codes "BIT 3,") 2 3 ∷
    cb_row (codes "BIT 4,") 2 3 ∷ cb_row (codes "BIT 5,") 2 3 ∷ cb_row (codes "BIT 6,") 2 3 ∷ cb_row (codes "BIT 7,") 2 3 ∷
    cb_row (codes "RES 0,") 2 4 ∷ cb_row (codes "RES 1,") 2 4 ∷ cb_row (codes "RES 2,") 2 4 ∷ cb_row (codes "RES 3,") 2 4 ∷
    cb_row (codes "RES 4,") 2 4 ∷ cb_row (codes "RES 5,") 2 4 ∷ cb_row (codes "RES 6,") 2 4 ∷ cb_row (codes "RES 7,") 2 4 ∷
    cb_row (codes "SET 0,") 2 4 ∷ cb_row (codes "SET 1,") 2 4 ∷ cb_row (codes "SET 2,") 2 4 ∷ cb_row (codes "SET 3,") 2 4 ∷
    cb_row (codes "SET 4,") 2 4 ∷ cb_row (codes "SET 5,") 2 4 ∷ cb_row (codes "SET 6,") 2 4 ∷ cb_row (codes "SET 7,") 2 4 ∷ []

-- an operand of three bits: its text, and whether it is the byte at HL
pub record CbOperand : Type 0 where
  pub text : List ℕ
  pub is_hl : Bool

abbrev pub cb_operand : List ℕ → Bool → CbOperand
cb_operand text is_hl = record { text = text; is_hl = is_hl }

unfoldable pub cb_operands : List CbOperand
cb_operands =
    cb_operand (codes "B") false ∷ cb_operand (codes "C") false ∷ cb_operand (codes "D") false ∷ cb_operand (codes "E") false ∷
    cb_operand (codes "H") false ∷ cb_operand (codes "L") false ∷ cb_operand (codes "(HL)") true ∷ cb_operand (codes "A") false ∷ []

-- an operation with an operand, which is two bytes
abbrev pub cb_instruction : CbRow → CbOperand → OpcodeRow
cb_instruction r o = let cycles = (if o.is_hl then r.at_hl else r.cycles) in row (r.text ++ o.text) 2 cycles cycles

-- the operands are those of the bytes from this one on
abbrev pub AreOperandsFrom : (byte : ℕ) → CbRow → List CbOperand → Type 0
AreOperandsFrom byte r [] = Unit {0}
AreOperandsFrom byte r (o ∷ operands) = ((c : ℕ) → decoded_row 0xCB byte c ≡ cb_instruction r o) × AreOperandsFrom (byte + 1) r operands

abbrev pub AreCbRowsFrom : (byte : ℕ) → List CbRow → Type 0
AreCbRowsFrom byte [] = Unit {0}
AreCbRowsFrom byte (r ∷ rows) = AreOperandsFrom byte r cb_operands × AreCbRowsFrom (byte + 8) rows

-- ---- the table

-- each opcode and each byte after CB has its row, and none is left out
pub record EachOpcodeHasItsRow : Type 0 where
  pub counts : (length opcodes_00 ≡ 64) × (length opcodes_40 ≡ 64) × (length opcodes_80 ≡ 64) × (length opcodes_c0 ≡ 11) × (length opcodes_cc ≡ 52)
  pub cb_counts : (length cb_rows ≡ 32) × (length cb_operands ≡ 8)
  pub from_00 : AreRowsFrom 0x00 opcodes_00
  pub from_40 : AreRowsFrom 0x40 opcodes_40
  pub from_80 : AreRowsFrom 0x80 opcodes_80
  pub from_c0 : AreRowsFrom 0xC0 opcodes_c0
  pub from_cc : AreRowsFrom 0xCC opcodes_cc
  pub after_cb : AreCbRowsFrom 0x00 cb_rows
