-- The length of an instruction by its opcode alone, by computing it at each of the 256 opcodes.
use Rattle.std.proofs.Common.{◌≡◌, ◌∙◌, ℕ, ◌<◌, Bool, true, false, nat_eq, refl, sym, ap, eqb-true, slice_index}
use Rattle.std.specs.Prelude.{◌==◌, if◌then◌else◌}
use Rattle.std.proofs.lemmas.Bool.{agree_below, agree_below_at}
use Rattle.opcode_table.specs.Table.{loads_and_steps, jumps_and_stack, bit_instruction, instruction_of}
use Rattle.opcode_table.specs.Timing.{length_of}
use Rattle.opcode_table.specs.declared.instruction.Instr.{Instr}
use Rattle.sm83_processor.specs.declared.lengths.TheConstants.{LENGTHS}

choice_of_length : (t : Bool) (i j : Instr) → length_of i ≡ 2 → length_of j ≡ 2 → length_of (if t then i else j) ≡ 2
choice_of_length true i j p q = p
choice_of_length false i j p q = q

bit_instruction-length : (x z y : ℕ) → length_of (bit_instruction x z y) ≡ 2
unfolding bit_instruction
bit_instruction-length x z y =
    choice_of_length (x == 0) _ _ refl (choice_of_length (x == 1) _ _ refl (choice_of_length (x == 2) _ _ refl refl))

-- at the opcodes other than CB both sides are computed
others : (b c : ℕ) → agree_below (λ o. if o == 0xCB then true else nat_eq (slice_index LENGTHS o) (length_of (instruction_of o b c))) (λ _. true) 256 ≡ true
unfolding instruction_of loads_and_steps jumps_and_stack
others b c = refl

prefixed : (b c : ℕ) → 2 ≡ length_of (instruction_of 0xCB b c)
unfolding instruction_of
prefixed b c = sym (bit_instruction-length _ _ _)

pub length_at : (o b c : ℕ) → o < 256 → slice_index LENGTHS o ≡ length_of (instruction_of o b c)
length_at o b c below =
    let table = agree_below_at (λ k. if k == 0xCB then true else nat_eq (slice_index LENGTHS k) (length_of (instruction_of k b c))) (λ _. true) 256 o (others b c) below in
    let cases : (t : Bool) → t ≡ (o == 0xCB) → (if t then true else nat_eq (slice_index LENGTHS o) (length_of (instruction_of o b c))) ≡ true → slice_index LENGTHS o ≡ length_of (instruction_of o b c) =
    λ t. elim t as (λ v. v ≡ (o == 0xCB) → (if v then true else nat_eq (slice_index LENGTHS o) (length_of (instruction_of o b c))) ≡ true → slice_index LENGTHS o ≡ length_of (instruction_of o b c)) [
      | true ↦ λ is same. (let prefix : o ≡ 0xCB = eqb-true o 0xCB (sym is) in ap (slice_index LENGTHS) prefix ∙ prefixed b c ∙ sym (ap (λ k. length_of (instruction_of k b c)) prefix))
      | false ↦ λ is same. eqb-true _ _ same
    ] in
    cases (o == 0xCB) refl table
