-- The instruction of three bytes is undefined exactly where the opcode is one of the eleven.
use Rattle.std.proofs.Common.{◌≡◌, ◌∙◌, ℕ, ◌<◌, Bool, true, false, nat_eq, refl, sym, ap, eqb-true}
use Rattle.std.specs.Prelude.{◌==◌, ◌↔◌, IsTrue, if◌then◌else◌}
use Rattle.std.specs.List.{list_any, Contains}
use Rattle.std.specs.Cmp.{nat_eq_equiv}
use Rattle.std.proofs.lemmas.Bool.{agree_below, agree_below_at}
use Rattle.std.proofs.lemmas.Map.Views.{list_any-from_Contains, Contains-from_any}
use Rattle.opcode_table.specs.declared.instruction.Instr.{Instr}
use Rattle.opcode_table.specs.Table.{loads_and_steps, jumps_and_stack, bit_instruction, instruction_of}
use Rattle.opcode_table.specs.Undefined.{undefined_opcodes, is_undefined}

abbrev pub is_listed : ℕ → Bool
is_listed o = list_any (nat_eq o) undefined_opcodes

-- a choice between two defined instructions is defined
choice-defined : (t : Bool) (i j : Instr) → is_undefined i ≡ false → is_undefined j ≡ false → is_undefined (if t then i else j) ≡ false
choice-defined true i j first second = first
choice-defined false i j first second = second

-- each of the four groups after CB is defined
bit_instruction-defined : (x z y : ℕ) → is_undefined (bit_instruction x z y) ≡ false
unfolding bit_instruction
bit_instruction-defined x z y =
    choice-defined (x == 0) _ _ refl (choice-defined (x == 1) _ _ refl (choice-defined (x == 2) _ _ refl refl))

-- at the opcodes other than CB both sides are computed, at each of the 256
others : (b c : ℕ) → agree_below (λ o. if o == 0xCB then false else is_undefined (instruction_of o b c)) is_listed 256 ≡ true
unfolding instruction_of loads_and_steps jumps_and_stack
others b c = refl

prefixed : (b c : ℕ) → is_undefined (instruction_of 0xCB b c) ≡ false
unfolding instruction_of
prefixed b c = bit_instruction-defined _ _ _

pub undefined_listed : (o b c : ℕ) → o < 256 → is_undefined (instruction_of o b c) ≡ is_listed o
undefined_listed o b c below =
    let table = agree_below_at (λ k. if k == 0xCB then false else is_undefined (instruction_of k b c)) is_listed 256 o (others b c) below in
    let cases : (t : Bool) → t ≡ (o == 0xCB) → (if t then false else is_undefined (instruction_of o b c)) ≡ is_listed o → is_undefined (instruction_of o b c) ≡ is_listed o =
    λ t. elim t as (λ v. v ≡ (o == 0xCB) → (if v then false else is_undefined (instruction_of o b c)) ≡ is_listed o → is_undefined (instruction_of o b c) ≡ is_listed o) [
      | true ↦ λ is same. (let prefix : o ≡ 0xCB = eqb-true o 0xCB (sym is) in ap (λ k. is_undefined (instruction_of k b c)) prefix ∙ prefixed b c ∙ same)
      | false ↦ λ is same. same
    ] in
    cases (o == 0xCB) refl table

pub undefined_exactly : (i : Instr) (o b c : ℕ) → o < 256 → i ≡ instruction_of o b c → IsTrue (is_undefined i) ↔ Contains undefined_opcodes o
undefined_exactly i o b c below is =
    let same : is_undefined i ≡ is_listed o = ap is_undefined is ∙ undefined_listed o b c below in (
      λ t. Contains-from_any eqb-true o undefined_opcodes (sym same ∙ t),
      λ listed. same ∙ list_any-from_Contains nat_eq_equiv o undefined_opcodes listed,
    )
