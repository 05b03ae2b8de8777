-- Each opcode has its row, by computing both.
use Rattle.std.proofs.Common.{◌≡◌, ℕ, List, [], ◌++◌, refl, sym, ap}
use Rattle.std.specs.Prelude.{codes}
use Rattle.std.proofs.lemmas.List.{append-nil}
use Rattle.opcode_table.specs.Table.{instruction_of, loads_and_steps, jumps_and_stack, bit_instruction}
use Rattle.opcode_table.specs.Text.{offset_text, operand8_text, register16_text, stack_register16_text, indirect_text, condition_text, operation_text, accumulator_text, shift_text}
use Rattle.opcode_table.specs.Matrix.{row, opcodes_00, opcodes_40, opcodes_80, opcodes_c0, opcodes_cc, AreRowsFrom, cb_rows, cb_operands, AreCbRowsFrom, EachOpcodeHasItsRow}

infixr 30 ◌&◌
-- one row, and the rows after it
◌&◌ : {A B : Type 0} → A → B → A × B
◌&◌ a b = (a, b)

-- a row whose text ends with an offset
signed : (text : List ℕ) (length cycles taken : ℕ) → (b c : ℕ) →
    row (text ++ offset_text b) length cycles taken ≡ row (text ++ (offset_text b ++ [])) length cycles taken
signed text length cycles taken b c = ap (λ (t : List ℕ). row (text ++ t) length cycles taken) (sym (append-nil (offset_text b)))

rows_00 : AreRowsFrom 0x00 opcodes_00
unfolding instruction_of loads_and_steps jumps_and_stack bit_instruction operand8_text register16_text stack_register16_text indirect_text condition_text operation_text accumulator_text shift_text opcodes_00
rows_00 =
    (λ b c. refl) & (λ b c. refl) & (λ b c. refl) & (λ b c. refl) & (λ b c. refl) & (λ b c. refl) & (λ b c. refl) & (λ b c. refl) &
    (λ b c. refl) & (λ b c. refl) & (λ b c. refl) & (λ b c. refl) & (λ b c. refl) & (λ b c. refl) & (λ b c. refl) & (λ b c. refl) &
    (λ b c. refl) & (λ b c. refl) & (λ b c. refl) & (λ b c. refl) & (λ b c. refl) & (λ b c. refl) & (λ b c. refl) & (λ b c. refl) &
    signed (codes "JR ") 2 3 3 & (λ b c. refl) & (λ b c. refl) & (λ b c. refl) & (λ b c. refl) & (λ b c. refl) & (λ b c. refl) & (λ b c. refl) &
    signed (codes "JR NZ,") 2 2 3 & (λ b c. refl) & (λ b c. refl) & (λ b c. refl) & (λ b c. refl) & (λ b c. refl) & (λ b c. refl) & (λ b c. refl) &
    signed (codes "JR Z,") 2 2 3 & (λ b c. refl) & (λ b c. refl) & (λ b c. refl) & (λ b c. refl) & (λ b c. refl) & (λ b c. refl) & (λ b c. refl) &
    signed (codes "JR NC,") 2 2 3 & (λ b c. refl) & (λ b c. refl) & (λ b c. refl) & (λ b c. refl) & (λ b c. refl) & (λ b c. refl) & (λ b c. refl) &
    signed (codes "JR C,") 2 2 3 & (λ b c. refl) & (λ b c. refl) & (λ b c. refl) & (λ b c. refl) & (λ b c. refl) & (λ b c. refl) & (λ b c. refl) & tt

rows_40 : AreRowsFrom 0x40 opcodes_40
unfolding instruction_of loads_and_steps jumps_and_stack bit_instruction operand8_text register16_text stack_register16_text indirect_text condition_text operation_text accumulator_text shift_text opcodes_40
rows_40 =
    (λ b c. refl) & (λ b c. refl) & (λ b c. refl) & (λ b c. refl) & (λ b c. refl) & (λ b c. refl) & (λ b c. refl) & (λ b c. refl) &
    (λ b c. refl) & (λ b c. refl) & (λ b c. refl) & (λ b c. refl) & (λ b c. refl) & (λ b c. refl) & (λ b c. refl) & (λ b c. refl) &
    (λ b c. refl) & (λ b c. refl) & (λ b c. refl) & (λ b c. refl) & (λ b c. refl) & (λ b c. refl) & (λ b c. refl) & (λ b c. refl) &
    (λ b c. refl) & (λ b c. refl) & (λ b c. refl) & (λ b c. refl) & (λ b c. refl) & (λ b c. refl) & (λ b c. refl) & (λ b c. refl) &
    (λ b c. refl) & (λ b c. refl) & (λ b c. refl) & (λ b c. refl) & (λ b c. refl) & (λ b c. refl) & (λ b c. refl) & (λ b c. refl) &
    (λ b c. refl) & (λ b c. refl) & (λ b c. refl) & (λ b c. refl) & (λ b c. refl) & (λ b c. refl) & (λ b c. refl) & (λ b c. refl) &
    (λ b c. refl) & (λ b c. refl) & (λ b c. refl) & (λ b c. refl) & (λ b c. refl) & (λ b c. refl) & (λ b c. refl) & (λ b c. refl) &
    (λ b c. refl) & (λ b c. refl) & (λ b c. refl) & (λ b c. refl) & (λ b c. refl) & (λ b c. refl) & (λ b c. refl) & (λ b c. refl) & tt

rows_80 : AreRowsFrom 0x80 opcodes_80
unfolding instruction_of loads_and_steps jumps_and_stack bit_instruction operand8_text register16_text stack_register16_text indirect_text condition_text operation_text accumulator_text shift_text opcodes_80
rows_80 =
    (λ b c. refl) & (λ b c. refl) & (λ b c. refl) & (λ b c. refl) & (λ b c. refl) & (λ b c. refl) & (λ b c. refl) & (λ b c. refl) &
    (λ b c. refl) & (λ b c. refl) & (λ b c. refl) & (λ b c. refl) & (λ b c. refl) & (λ b c. refl) & (λ b c. refl) & (λ b c. refl) &
    (λ b c. refl) & (λ b c. refl) & (λ b c. refl) & (λ b c. refl) & (λ b c. refl) & (λ b c. refl) & (λ b c. refl) & (λ b c. refl) &
    (λ b c. refl) & (λ b c. refl) & (λ b c. refl) & (λ b c. refl) & (λ b c. refl) & (λ b c. refl) & (λ b c. refl) & (λ b c. refl) &
    (λ b c. refl) & (λ b c. refl) & (λ b c. refl) & (λ b c. refl) & (λ b c. refl) & (λ b c. refl) & (λ b c. refl) & (λ b c. refl) &
    (λ b c. refl) & (λ b c. refl) & (λ b c. refl) & (λ b c. refl) & (λ b c. refl) & (λ b c. refl) & (λ b c. refl) & (λ b c. refl) &
    (λ b c. refl) & (λ b c. refl) & (λ b c. refl) & (λ b c. refl) & (λ b c. refl) & (λ b c. refl) & (λ b c. refl) & (λ b c. refl) &
    (λ b c. refl) & (λ b c. refl) & (λ b c. refl) & (λ b c. refl) & (λ b c. refl) & (λ b c. refl) & (λ b c. refl) & (λ b c. refl) & tt

rows_c0 : AreRowsFrom 0xC0 opcodes_c0
unfolding instruction_of loads_and_steps jumps_and_stack bit_instruction operand8_text register16_text stack_register16_text indirect_text condition_text operation_text accumulator_text shift_text opcodes_c0
rows_c0 =
    (λ b c. refl) & (λ b c. refl) & (λ b c. refl) & (λ b c. refl) & (λ b c. refl) & (λ b c. refl) & (λ b c. refl) & (λ b c. refl) &
    (λ b c. refl) & (λ b c. refl) & (λ b c. refl) & tt

rows_cc : AreRowsFrom 0xCC opcodes_cc
unfolding instruction_of loads_and_steps jumps_and_stack bit_instruction operand8_text register16_text stack_register16_text indirect_text condition_text operation_text accumulator_text shift_text opcodes_cc
rows_cc =
    (λ b c. refl) & (λ b c. refl) & (λ b c. refl) & (λ b c. refl) & (λ b c. refl) & (λ b c. refl) & (λ b c. refl) & (λ b c. refl) &
    (λ b c. refl) & (λ b c. refl) & (λ b c. refl) & (λ b c. refl) & (λ b c. refl) & (λ b c. refl) & (λ b c. refl) & (λ b c. refl) &
    (λ b c. refl) & (λ b c. refl) & (λ b c. refl) & (λ b c. refl) & (λ b c. refl) & (λ b c. refl) & (λ b c. refl) & (λ b c. refl) &
    (λ b c. refl) & (λ b c. refl) & (λ b c. refl) & (λ b c. refl) & signed (codes "ADD SP,") 2 4 4 & (λ b c. refl) & (λ b c. refl) & (λ b c. refl) &
    (λ b c. refl) & (λ b c. refl) & (λ b c. refl) & (λ b c. refl) & (λ b c. refl) & (λ b c. refl) & (λ b c. refl) & (λ b c. refl) &
    (λ b c. refl) & (λ b c. refl) & (λ b c. refl) & (λ b c. refl) & signed (codes "LD HL,SP") 2 3 3 & (λ b c. refl) & (λ b c. refl) & (λ b c. refl) &
    (λ b c. refl) & (λ b c. refl) & (λ b c. refl) & (λ b c. refl) & tt

after_cb : AreCbRowsFrom 0x00 cb_rows
unfolding instruction_of loads_and_steps jumps_and_stack bit_instruction operand8_text register16_text stack_register16_text indirect_text condition_text operation_text accumulator_text shift_text cb_rows cb_operands
after_cb =
    ((λ c. refl) & (λ c. refl) & (λ c. refl) & (λ c. refl) & (λ c. refl) & (λ c. refl) & (λ c. refl) & (λ c. refl) & tt) &
    ((λ c. refl) & (λ c. refl) & (λ c. refl) & (λ c. refl) & (λ c. refl) & (λ c. refl) & (λ c. refl) & (λ c. refl) & tt) &
    ((λ c. refl) & (λ c. refl) & (λ c. refl) & (λ c. refl) & (λ c. refl) & (λ c. refl) & (λ c. refl) & (λ c. refl) & tt) &
    ((λ c. refl) & (λ c. refl) & (λ c. refl) & (λ c. refl) & (λ c. refl) & (λ c. refl) & (λ c. refl) & (λ c. refl) & tt) &
    ((λ c. refl) & (λ c. refl) & (λ c. refl) & (λ c. refl) & (λ c. refl) & (λ c. refl) & (λ c. refl) & (λ c. refl) & tt) &
    ((λ c. refl) & (λ c. refl) & (λ c. refl) & (λ c. refl) & (λ c. refl) & (λ c. refl) & (λ c. refl) & (λ c. refl) & tt) &
    ((λ c. refl) & (λ c. refl) & (λ c. refl) & (λ c. refl) & (λ c. refl) & (λ c. refl) & (λ c. refl) & (λ c. refl) & tt) &
    ((λ c. refl) & (λ c. refl) & (λ c. refl) & (λ c. refl) & (λ c. refl) & (λ c. refl) & (λ c. refl) & (λ c. refl) & tt) &
    ((λ c. refl) & (λ c. refl) & (λ c. refl) & (λ c. refl) & (λ c. refl) & (λ c. refl) & (λ c. refl) & (λ c. refl) & tt) &
    ((λ c. refl) & (λ c. refl) & (λ c. refl) & (λ c. refl) & (λ c. refl) & (λ c. refl) & (λ c. refl) & (λ c. refl) & tt) &
    ((λ c. refl) & (λ c. refl) & (λ c. refl) & (λ c. refl) & (λ c. refl) & (λ c. refl) & (λ c. refl) & (λ c. refl) & tt) &
    ((λ c. refl) & (λ c. refl) & (λ c. refl) & (λ c. refl) & (λ c. refl) & (λ c. refl) & (λ c. refl) & (λ c. refl) & tt) &
    ((λ c. refl) & (λ c. refl) & (λ c. refl) & (λ c. refl) & (λ c. refl) & (λ c. refl) & (λ c. refl) & (λ c. refl) & tt) &
    ((λ c. refl) & (λ c. refl) & (λ c. refl) & (λ c. refl) & (λ c. refl) & (λ c. refl) & (λ c. refl) & (λ c. refl) & tt) &
    ((λ c. refl) & (λ c. refl) & (λ c. refl) & (λ c. refl) & (λ c. refl) & (λ c. refl) & (λ c. refl) & (λ c. refl) & tt) &
    ((λ c. refl) & (λ c. refl) & (λ c. refl) & (λ c. refl) & (λ c. refl) & (λ c. refl) & (λ c. refl) & (λ c. refl) & tt) &
    ((λ c. refl) & (λ c. refl) & (λ c. refl) & (λ c. refl) & (λ c. refl) & (λ c. refl) & (λ c. refl) & (λ c. refl) & tt) &
    ((λ c. refl) & (λ c. refl) & (λ c. refl) & (λ c. refl) & (λ c. refl) & (λ c. refl) & (λ c. refl) & (λ c. refl) & tt) &
    ((λ c. refl) & (λ c. refl) & (λ c. refl) & (λ c. refl) & (λ c. refl) & (λ c. refl) & (λ c. refl) & (λ c. refl) & tt) &
    ((λ c. refl) & (λ c. refl) & (λ c. refl) & (λ c. refl) & (λ c. refl) & (λ c. refl) & (λ c. refl) & (λ c. refl) & tt) &
    ((λ c. refl) & (λ c. refl) & (λ c. refl) & (λ c. refl) & (λ c. refl) & (λ c. refl) & (λ c. refl) & (λ c. refl) & tt) &
    ((λ c. refl) & (λ c. refl) & (λ c. refl) & (λ c. refl) & (λ c. refl) & (λ c. refl) & (λ c. refl) & (λ c. refl) & tt) &
    ((λ c. refl) & (λ c. refl) & (λ c. refl) & (λ c. refl) & (λ c. refl) & (λ c. refl) & (λ c. refl) & (λ c. refl) & tt) &
    ((λ c. refl) & (λ c. refl) & (λ c. refl) & (λ c. refl) & (λ c. refl) & (λ c. refl) & (λ c. refl) & (λ c. refl) & tt) &
    ((λ c. refl) & (λ c. refl) & (λ c. refl) & (λ c. refl) & (λ c. refl) & (λ c. refl) & (λ c. refl) & (λ c. refl) & tt) &
    ((λ c. refl) & (λ c. refl) & (λ c. refl) & (λ c. refl) & (λ c. refl) & (λ c. refl) & (λ c. refl) & (λ c. refl) & tt) &
    ((λ c. refl) & (λ c. refl) & (λ c. refl) & (λ c. refl) & (λ c. refl) & (λ c. refl) & (λ c. refl) & (λ c. refl) & tt) &
    ((λ c. refl) & (λ c. refl) & (λ c. refl) & (λ c. refl) & (λ c. refl) & (λ c. refl) & (λ c. refl) & (λ c. refl) & tt) &
    ((λ c. refl) & (λ c. refl) & (λ c. refl) & (λ c. refl) & (λ c. refl) & (λ c. refl) & (λ c. refl) & (λ c. refl) & tt) &
    ((λ c. refl) & (λ c. refl) & (λ c. refl) & (λ c. refl) & (λ c. refl) & (λ c. refl) & (λ c. refl) & (λ c. refl) & tt) &
    ((λ c. refl) & (λ c. refl) & (λ c. refl) & (λ c. refl) & (λ c. refl) & (λ c. refl) & (λ c. refl) & (λ c. refl) & tt) &
    ((λ c. refl) & (λ c. refl) & (λ c. refl) & (λ c. refl) & (λ c. refl) & (λ c. refl) & (λ c. refl) & (λ c. refl) & tt) & tt

pub each_has_its_row : EachOpcodeHasItsRow
unfolding opcodes_00 opcodes_40 opcodes_80 opcodes_c0 opcodes_cc cb_rows cb_operands
each_has_its_row = record {
  counts = (refl, refl, refl, refl, refl);
  cb_counts = (refl, refl);
  from_00 = rows_00;
  from_40 = rows_40;
  from_80 = rows_80;
  from_c0 = rows_c0;
  from_cc = rows_cc;
  after_cb = after_cb;
}
