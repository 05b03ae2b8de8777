-- Which opcodes access no memory, by computing it at each of the 256, and which instructions after CB.
use Rattle.std.proofs.Common.{◌≡◌, ◌∙◌, ℕ, ◌<◌, ◌/◌, ◌%◌, Bool, true, false, List, [], ◌∷◌, slice_index_or, refl, sym, ap, subst, arith}
use Rattle.std.specs.Prelude.{◌==◌, ◌||◌, if◌then◌else◌}
use Rattle.std.proofs.lemmas.Bool.{agree_below, agree_below_at}
use Rattle.opcode_table.specs.Operands.{operand8_of}
use Rattle.opcode_table.specs.Table.{loads_and_steps, jumps_and_stack, bit_instruction, instruction_of}
use Rattle.opcode_table.specs.declared.instruction.Instr.{Instr}
use Rattle.sm83_alu.specs.declared.register_file.Registers.{Registers}
use Rattle.sm83_processor.specs.FastStep.{IsFast}
use Rattle.sm83_processor.specs.RegisterOperations.{next_address}
use Rattle.sm83_processor.specs.Steps.{byte_at, decoded_at, second_address}
use Rattle.sm83_processor.specs.declared.processor.Processor.{Processor}
use Rattle.memory_map.specs.Bus.{read_at}
use Rattle.memory_map.specs.BusRules.{bus_rules}
use Rattle.memory_map.specs.State.{BusState}
use Rattle.debugging.specs.declared.passing.TheConstants.{STORES, ACCESSES}
use Rattle.debugging.specs.Accesses.{instruction_reads, operand_reads}
use Rattle.debugging.specs.Passing.{StoresNothing, LoadsNothing, instruction_writes}

abbrev is_empty : List ℕ → Bool
is_empty [] = true
is_empty (x ∷ xs) = false

empty_is : (xs : List ℕ) → is_empty xs ≡ true → xs ≡ []
empty_is [] e = refl
empty_is (x ∷ xs) e = absurd (cc)

or_else : (a b : Bool) → (a || b) ≡ true → a ≡ false → b ≡ true
or_else true b e none = absurd (cc)
or_else false b e none = e

-- ---- by opcode

stores : (b c : ℕ) (r : Registers) → agree_below (λ o. slice_index_or STORES o false || is_empty (instruction_writes (instruction_of o b c) r)) (λ _. true) 256 ≡ true
unfolding instruction_of loads_and_steps jumps_and_stack
stores b c r = refl

accesses_writes : (b c : ℕ) (r : Registers) → agree_below (λ o. slice_index_or ACCESSES o false || is_empty (instruction_writes (instruction_of o b c) r)) (λ _. true) 256 ≡ true
unfolding instruction_of loads_and_steps jumps_and_stack
accesses_writes b c r = refl

accesses_reads : (b c : ℕ) (r : Registers) → agree_below (λ o. slice_index_or ACCESSES o false || is_empty (instruction_reads (instruction_of o b c) r)) (λ _. true) 256 ≡ true
unfolding instruction_of loads_and_steps jumps_and_stack
accesses_reads b c r = refl

at_opcode : (told : ℕ → Bool) (named : ℕ → List ℕ) (o : ℕ) → o < 256 → agree_below (λ k. told k || is_empty (named k)) (λ _. true) 256 ≡ true → told o ≡ false → named o ≡ []
at_opcode told named o below table none =
    empty_is (named o) (or_else (told o) (is_empty (named o)) (agree_below_at (λ k. told k || is_empty (named k)) (λ _. true) 256 o table below) none)

pub stores_nothing : (o : ℕ) → o < 256 → slice_index_or STORES o false ≡ false → StoresNothing o
stores_nothing o below none = λ b c r. at_opcode (λ k. slice_index_or STORES k false) (λ k. instruction_writes (instruction_of k b c) r) o below (stores b c r) none

pub accesses_nothing : (o : ℕ) → o < 256 → slice_index_or ACCESSES o false ≡ false → StoresNothing o
accesses_nothing o below none = λ b c r. at_opcode (λ k. slice_index_or ACCESSES k false) (λ k. instruction_writes (instruction_of k b c) r) o below (accesses_writes b c r) none

pub loads_nothing : (o : ℕ) → o < 256 → slice_index_or ACCESSES o false ≡ false → LoadsNothing o
loads_nothing o below none = λ b c r. at_opcode (λ k. slice_index_or ACCESSES k false) (λ k. instruction_reads (instruction_of k b c) r) o below (accesses_reads b c r) none

-- ---- after CB

operands : (r : Registers) → agree_below (λ z. z == 6 || is_empty (operand_reads (operand8_of z) r)) (λ _. true) 8 ≡ true
operands r = refl

in_register : (r : Registers) (z : ℕ) → z < 8 → (z == 6) ≡ false → operand_reads (operand8_of z) r ≡ []
in_register r z below other =
    empty_is (operand_reads (operand8_of z) r) (or_else (z == 6) (is_empty (operand_reads (operand8_of z) r))
    (agree_below_at (λ k. k == 6 || is_empty (operand_reads (operand8_of k) r)) (λ _. true) 8 z (operands r) below) other)

either_none : (named : Instr → List ℕ) (t : Bool) (i j : Instr) → named i ≡ [] → named j ≡ [] → named (if t then i else j) ≡ []
either_none named true i j e f = e
either_none named false i j e f = f

prefixed_writes : (r : Registers) (b c : ℕ) → (b % 8 == 6) ≡ false → instruction_writes (instruction_of 0xCB b c) r ≡ []
unfolding instruction_of bit_instruction
prefixed_writes r b c other =
    let named : Instr → List ℕ = λ i. instruction_writes i r in
    let below : b % 8 < 8 = omega arith in
    let none = in_register r (b % 8) below other in
    either_none named (b / 64 == 0) _ _ none (either_none named (b / 64 == 1) _ _ refl (either_none named (b / 64 == 2) _ _ none none))

prefixed_reads : (r : Registers) (b c : ℕ) → (b % 8 == 6) ≡ false → instruction_reads (instruction_of 0xCB b c) r ≡ []
unfolding instruction_of bit_instruction
prefixed_reads r b c other =
    let named : Instr → List ℕ = λ i. instruction_reads i r in
    let below : b % 8 < 8 = omega arith in
    let none = in_register r (b % 8) below other in
    either_none named (b / 64 == 0) _ _ none (either_none named (b / 64 == 1) _ _ none (either_none named (b / 64 == 2) _ _ none none))

module _ (p : Processor BusState) (fast : IsFast bus_rules p) (opcode second : ℕ) (prefix : opcode ≡ 0xCB) (here : opcode ≡ read_at p.memory p.registers.pc)
    (next : second ≡ read_at p.memory (next_address p.registers.pc)) (other : (second % 8 == 6) ≡ false) where
  at_second : second ≡ read_at p.memory (second_address p)
  at_second = next ∙ ap (λ (b : Bool). read_at p.memory (if b then p.registers.pc else next_address p.registers.pc)) (sym fast.usual.halt_bug)

  decoded : (named : Instr → List ℕ) → named (instruction_of 0xCB second (byte_at bus_rules (next_address (second_address p)) p)) ≡ [] → named (decoded_at bus_rules p).instr ≡ []
  decoded named none =
      let third = byte_at bus_rules (next_address (second_address p)) p in
      subst (λ (b : ℕ). named (instruction_of (read_at p.memory p.registers.pc) b third) ≡ []) at_second
      (subst (λ (o : ℕ). named (instruction_of o second third) ≡ []) (sym prefix ∙ here) none)

  pub registers_written : instruction_writes (decoded_at bus_rules p).instr p.registers ≡ []
  registers_written = decoded (λ i. instruction_writes i p.registers) (prefixed_writes p.registers second _ other)

  pub registers_read : instruction_reads (decoded_at bus_rules p).instr p.registers ≡ []
  registers_read = decoded (λ i. instruction_reads i p.registers) (prefixed_reads p.registers second _ other)
