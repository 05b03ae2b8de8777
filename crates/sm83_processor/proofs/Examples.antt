-- Worked examples of the definitions, computed over a memory that is a function from addresses to bytes.
use Rattle.std.proofs.Common.{◌≡◌, ℕ, List, [], ◌∷◌, refl, true, false, Bool, nat_lt, ◌-◌, get_or}
use Rattle.std.specs.Prelude.{◌==◌, if◌then◌else◌, bit_and}
use Rattle.sm83_alu.specs.declared.register_file.Registers.{Registers}
use Rattle.sm83_alu.specs.Flags.{flags_byte, flags_of}
use Rattle.sm83_alu.specs.Bits.{without_bit}
use Rattle.opcode_table.specs.Table.{instruction_of, loads_and_steps, jumps_and_stack, bit_instruction}
use Rattle.sm83_processor.specs.Rules.{Rules}
use Rattle.sm83_processor.specs.Steps.{step_of, after_steps}
use Rattle.sm83_processor.specs.declared.processor.Processor.{Processor}
use Rattle.sm83_processor.specs.declared.step.StepKind.TheVariants.{Dispatch, Wait}

abbrev function_rules : Rules (ℕ → ℕ)
function_rules = record {
  value_at = λ m a. m a;
  written = λ m a n k. if k == a then n else m k;
  pending_interrupts = λ m. bit_and (bit_and (m 0xFF0F) (m 0xFFFF)) 31;
  acknowledged = λ m bit k. if k == 0xFF0F then without_bit bit (m 0xFF0F) else m k;
  passed = λ m n. m;
}

-- a program at C000, with IF and IE as given
abbrev memory_of : List ℕ → ℕ → ℕ → ℕ → ℕ
memory_of program requests enabled k =
    if k == 0xFFFF then enabled else if k == 0xFF0F then requests else if nat_lt k 0xC000 then 0 else get_or program (k - 0xC000) 0

abbrev processor_at : ℕ → ℕ → ℕ → Bool → (ℕ → ℕ) → Processor (ℕ → ℕ)
processor_at a f sp ime memory = record {
  registers = record { a = a; flags = flags_of f; b = 0; c = 0; d = 0; e = 0; h = 0; l = 0; sp = sp; pc = 0xC000 };
  state = record { ime = ime; ime_pending = false; halted = false; stopped = false; locked = false; halt_bug = false };
  memory = memory;
}

-- IME is clear, IF E1 and IE as given
abbrev quiet : ℕ → ℕ → ℕ → List ℕ → ℕ → Processor (ℕ → ℕ)
quiet a f sp program enabled = processor_at a f sp false (memory_of program 0xE1 enabled)

abbrev after : ℕ → Processor (ℕ → ℕ) → Processor (ℕ → ℕ)
after n s = after_steps function_rules n s

abbrev registers_after : ℕ → Processor (ℕ → ℕ) → Registers
registers_after n s = (after n s).registers

sum_wraps : let r = registers_after 1 (quiet 0x3A 0 0xFFFE (0xC6 ∷ 0xC6 ∷ []) 0) in (r.a ≡ 0) × (flags_byte r.flags ≡ 0xB0)
unfolding after_steps step_of instruction_of loads_and_steps jumps_and_stack bit_instruction
sum_wraps = (refl, refl)

sum_of_digits : let r = registers_after 1 (quiet 0x45 0 0xFFFE (0xC6 ∷ 0x38 ∷ []) 0) in (r.a ≡ 0x7D) × (flags_byte r.flags ≡ 0)
unfolding after_steps step_of instruction_of loads_and_steps jumps_and_stack bit_instruction
sum_of_digits = (refl, refl)

difference_of_digits : let r = registers_after 1 (quiet 0x83 0 0xFFFE (0xD6 ∷ 0x38 ∷ []) 0) in (r.a ≡ 0x4B) × (flags_byte r.flags ≡ 0x60)
unfolding after_steps step_of instruction_of loads_and_steps jumps_and_stack bit_instruction
difference_of_digits = (refl, refl)

decimal_sum : let r = registers_after 2 (quiet 0x45 0 0xFFFE (0xC6 ∷ 0x38 ∷ 0x27 ∷ []) 0) in (r.a ≡ 0x83) × (flags_byte r.flags ≡ 0)
unfolding after_steps step_of instruction_of loads_and_steps jumps_and_stack bit_instruction
decimal_sum = (refl, refl)

decimal_difference : let r = registers_after 4 (quiet 0x45 0 0xFFFE (0xC6 ∷ 0x38 ∷ 0x27 ∷ 0xD6 ∷ 0x38 ∷ 0x27 ∷ []) 0) in (r.a ≡ 0x45) × (flags_byte r.flags ≡ 0x40)
unfolding after_steps step_of instruction_of loads_and_steps jumps_and_stack bit_instruction
decimal_difference = (refl, refl)

offset_below_zero : let r = registers_after 1 (quiet 1 0 0 (0xE8 ∷ 0xFF ∷ []) 0) in (r.sp ≡ 0xFFFF) × (flags_byte r.flags ≡ 0)
unfolding after_steps step_of instruction_of loads_and_steps jumps_and_stack bit_instruction
offset_below_zero = (refl, refl)

offset_to_zero : let r = registers_after 1 (quiet 1 0 1 (0xE8 ∷ 0xFF ∷ []) 0) in (r.sp ≡ 0) × (flags_byte r.flags ≡ 0x30)
unfolding after_steps step_of instruction_of loads_and_steps jumps_and_stack bit_instruction
offset_to_zero = (refl, refl)

offset_out_of_the_low_byte : let r = registers_after 1 (quiet 1 0 0xFF (0xE8 ∷ 0x01 ∷ []) 0) in (r.sp ≡ 0x100) × (flags_byte r.flags ≡ 0x30)
unfolding after_steps step_of instruction_of loads_and_steps jumps_and_stack bit_instruction
offset_out_of_the_low_byte = (refl, refl)

halt_not_entered_repeats_a_byte : let r = registers_after 3 (quiet 0x10 0 0xFFFE (0x76 ∷ 0x3C ∷ []) 1) in (r.a ≡ 0x12) × (r.pc ≡ 0xC002)
unfolding after_steps step_of instruction_of loads_and_steps jumps_and_stack bit_instruction
halt_not_entered_repeats_a_byte = (refl, refl)

disabling_after_enabling : (after 2 (quiet 0x10 0 0xFFFE (0xFB ∷ 0xF3 ∷ []) 1)).state.ime ≡ false
unfolding after_steps step_of instruction_of loads_and_steps jumps_and_stack bit_instruction
disabling_after_enabling = refl

interrupt_after_enabling :
    let s = after 3 (quiet 0x10 0 0xFFFE (0xFB ∷ 0 ∷ []) 1) in (s.registers.pc ≡ 0x40) × (s.memory 0xFFFD ≡ 0xC0) × (s.memory 0xFFFC ≡ 0x02)
unfolding after_steps step_of instruction_of loads_and_steps jumps_and_stack bit_instruction
interrupt_after_enabling = (refl, refl, refl)

-- of STAT and timer only the timer is enabled beside VBlank, which is not requested
timer_interrupt :
    let s = step_of function_rules (processor_at 0 0 0xD000 true (memory_of [] 0xE4 0x05)) in
    (s.stepped ≡ record { kind = Dispatch 0x50; cycles = 5 }) × (s.after.registers.sp ≡ 0xCFFE) × (s.after.memory 0xCFFF ≡ 0xC0) × (s.after.memory 0xCFFE ≡ 0x00)
    × (s.after.memory 0xFF0F ≡ 0xE0) × (s.after.state.ime ≡ false)
unfolding step_of
timer_interrupt = (refl, refl, refl, refl, refl, refl)

undefined_opcode_locks :
    let s = after 1 (quiet 0 0 0 (0xD3 ∷ []) 0) in (s.registers.pc ≡ 0xC001) × ((step_of function_rules s).stepped ≡ record { kind = Wait; cycles = 1 })
unfolding after_steps step_of instruction_of loads_and_steps jumps_and_stack bit_instruction
undefined_opcode_locks = (refl, refl)
