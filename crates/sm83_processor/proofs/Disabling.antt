-- DI is the instruction of one opcode alone.
use Rattle.std.proofs.Common.{◌≡◌, ◌∙◌, ℕ, ◌<◌, Bool, true, false, refl, sym, ap, eqb-true}
use Rattle.std.specs.Prelude.{◌==◌, if◌then◌else◌}
use Rattle.std.proofs.lemmas.Bool.{agree_below, agree_below_at}
use Rattle.opcode_table.specs.Table.{loads_and_steps, jumps_and_stack, bit_instruction, instruction_of}
use Rattle.opcode_table.specs.declared.instruction.Instr.{Instr}
use Rattle.sm83_processor.specs.Steps.{is_disabling}

choice-not_disabling : (t : Bool) (i j : Instr) → is_disabling i ≡ false → is_disabling j ≡ false → is_disabling (if t then i else j) ≡ false
choice-not_disabling true i j p q = p
choice-not_disabling false i j p q = q

bit_instruction-not_disabling : (x z y : ℕ) → is_disabling (bit_instruction x z y) ≡ false
unfolding bit_instruction
bit_instruction-not_disabling x z y =
    choice-not_disabling (x == 0) _ _ refl (choice-not_disabling (x == 1) _ _ refl (choice-not_disabling (x == 2) _ _ refl refl))

-- at the opcodes other than CB both sides are computed
others : (b c : ℕ) → agree_below (λ o. if o == 0xCB then false else is_disabling (instruction_of o b c)) (λ o. o == 0xF3) 256 ≡ true
unfolding instruction_of loads_and_steps jumps_and_stack
others b c = refl

prefixed : (b c : ℕ) → is_disabling (instruction_of 0xCB b c) ≡ false
unfolding instruction_of
prefixed b c = bit_instruction-not_disabling _ _ _

pub disabling_opcode : (o b c : ℕ) → o < 256 → is_disabling (instruction_of o b c) ≡ (o == 0xF3)
disabling_opcode o b c below =
    let table = agree_below_at (λ k. if k == 0xCB then false else is_disabling (instruction_of k b c)) (λ k. k == 0xF3) 256 o (others b c) below in
    let cases : (t : Bool) → t ≡ (o == 0xCB) → (if t then false else is_disabling (instruction_of o b c)) ≡ (o == 0xF3) → is_disabling (instruction_of o b c) ≡ (o == 0xF3) =
    λ t. elim t as (λ v. v ≡ (o == 0xCB) → (if v then false else is_disabling (instruction_of o b c)) ≡ (o == 0xF3) → is_disabling (instruction_of o b c) ≡ (o == 0xF3)) [
      | true ↦ λ is same. (let prefix : o ≡ 0xCB = eqb-true o 0xCB (sym is) in ap (λ k. is_disabling (instruction_of k b c)) prefix ∙ prefixed b c ∙ same)
      | false ↦ λ is same. same
    ] in
    cases (o == 0xCB) refl table
