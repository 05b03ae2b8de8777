-- One step of the processor: a wait, the dispatch of an interrupt, or one instruction (Pan Docs, 'Interrupts' and 'halt').
-- All accesses of a step are made at its start, then its M-cycles pass (fixed profile).
use Rattle.std.specs.Prelude.{◌≡◌, ℕ, ◌<◌, Bool, true, false, not, [], ◌∷◌, ◌+◌, ◌-◌, ◌*◌, ◌%◌, ◌==◌, ◌&&◌, if◌then◌else◌, find, unwrap_or}
use Rattle.std.specs.Int.{bit_at}
use Rattle.std.specs.Fn.{iterate}
use Rattle.sm83_processor.specs.Rules.{Rules}
use Rattle.sm83_processor.specs.RegisterOperations.{next_address, is_taken}
use Rattle.sm83_processor.specs.Execution.{executed, pushed, at_pc}
use Rattle.sm83_processor.specs.declared.processor.Processor.{Processor}
use Rattle.sm83_processor.specs.declared.step.Stepped.{Stepped}
use Rattle.sm83_processor.specs.declared.step.StepKind.TheVariants.{Dispatch, Wait, Ran}
use Rattle.opcode_table.specs.declared.instruction.Instr.{Instr}
use Rattle.opcode_table.specs.declared.instruction.Instr.TheVariants as instr
use Rattle.opcode_table.specs.declared.decoding.Decoded.{Decoded}
use Rattle.opcode_table.specs.Timing.{decoded_of}

-- where a step ends, and what it did
pub record Step (M : Type 0) : Type 0 where
  pub after : Processor M
  pub stepped : Stepped

-- M-cycles pass
abbrev pub passing : {M : Type 0} → Rules M → ℕ → Processor M → Processor M
passing rules n s = record s { memory = rules.passed s.memory n }

-- one M-cycle passes, and nothing else
abbrev pub waited : {M : Type 0} → Rules M → Processor M → Step M
waited rules s = record { after = passing rules 1 s; stepped = record { kind = Wait; cycles = 1 } }

-- the interrupts by their bits in IE and IF: VBlank 0, STAT 1, timer 2, serial 3, joypad 4
-- the first of them that is set
abbrev pub lowest_interrupt : ℕ → ℕ
lowest_interrupt n = unwrap_or (find (λ k. bit_at n k == 1) (0 ∷ 1 ∷ 2 ∷ 3 ∷ 4 ∷ [])) 4

-- bit k is set and no lower bit is
pub record IsLowestBit (n k : ℕ) : Type 0 where
  pub set : bit_at n k ≡ 1
  pub first : (j : ℕ) → j < k → bit_at n j ≡ 0

-- where one of the five bits is set, the interrupt that is dispatched is the lowest of them
abbrev pub DispatchesLowest : Type 0
DispatchesLowest = (n : ℕ) → 0 < n → n < 32 → IsLowestBit n (lowest_interrupt n)

-- 40, 48, 50, 58 and 60
abbrev pub vector_of : ℕ → ℕ
vector_of bit = 0x40 + 8 * bit

-- an interrupt: its bit in IF is cleared, PC is pushed and becomes its vector, which is chosen before the pushes, whatever they write
-- to IE (fixed profile)
abbrev pub dispatched : {M : Type 0} → Rules M → Processor M → Step M
dispatched rules s =
    let bit = lowest_interrupt (rules.pending_interrupts s.memory) in
    let quiet = record s {
      state = record s.state { ime = false; ime_pending = false };
      memory = rules.acknowledged s.memory bit;
    } in
    record {
      after = passing rules 5 (at_pc (vector_of bit) (pushed rules s.registers.pc quiet));
      stepped = record { kind = Dispatch (vector_of bit); cycles = 5 };
    }

-- the address of the second byte: after a halt that was not entered it is PC's own
abbrev pub second_address : {M : Type 0} → Processor M → ℕ
second_address s = if s.state.halt_bug then s.registers.pc else next_address s.registers.pc

abbrev pub byte_at : {M : Type 0} → Rules M → ℕ → Processor M → ℕ
byte_at rules address s = rules.value_at s.memory address

-- the row of the instruction table for the bytes at PC
abbrev pub decoded_at : {M : Type 0} → Rules M → Processor M → Decoded
decoded_at rules s =
    decoded_of (byte_at rules s.registers.pc s) (byte_at rules (second_address s) s) (byte_at rules (next_address (second_address s)) s)

-- the processor as an instruction of n bytes begins: PC is after it
abbrev pub begun : {M : Type 0} → ℕ → Processor M → Processor M
begun n s = record s {
  registers = record s.registers { pc = (second_address s + (n - 1)) % 65536 };
  state = record s.state { halt_bug = false };
}

-- DI
abbrev pub is_disabling : Instr → Bool
is_disabling instr.DisableInterrupts = true
is_disabling i = false

-- an instruction that began with `ime_pending` ends with IME set and `ime_pending` clear, but for DI: directly after EI, IME stays
-- clear (fixed profile)
abbrev pub with_ime_due : {M : Type 0} → Bool → Instr → Processor M → Processor M
with_ime_due ime_pending i s =
    if ime_pending && not (is_disabling i) then record s { state = record s.state { ime = true; ime_pending = false } } else s

-- one instruction
abbrev pub ran : {M : Type 0} → Rules M → Processor M → Step M
ran rules s =
    let d = decoded_at rules s in
    let cycles = (if is_taken d.instr s.registers.flags then d.cycles_taken else d.cycles) in
    record {
      after = passing rules cycles (with_ime_due s.state.ime_pending d.instr (executed rules d.instr (begun d.length s)));
      stepped = record {
        kind = Ran (record {
          pc = s.registers.pc;
          bytes = byte_at rules s.registers.pc s ∷ byte_at rules (second_address s) s ∷ byte_at rules (next_address (second_address s)) s ∷ [];
          length = d.length;
        });
        cycles = cycles;
      };
    }

-- a processor that neither waits nor is stopped takes an interrupt that is let in, or runs
abbrev pub dispatched_or_ran : {M : Type 0} → Rules M → Processor M → Step M
dispatched_or_ran rules s = if s.state.ime && not (rules.pending_interrupts s.memory == 0) then dispatched rules s else ran rules s

-- a halt ends where IE and IF share a bit
abbrev pub step_unstopped : {M : Type 0} → Rules M → Processor M → Step M
step_unstopped rules s =
    if s.state.halted && rules.pending_interrupts s.memory == 0 then waited rules s
    else dispatched_or_ran rules (record s { state = record s.state { halted = false } })

-- A locked processor waits for ever (fixed profile). A stop ends where a low bit of P1, at FF00, is 0; until then all units go on
-- (fixed profile).
unfoldable pub step_of : {M : Type 0} → Rules M → Processor M → Step M
step_of rules s =
    if s.state.locked then waited rules s
    else if s.state.stopped && rules.value_at s.memory 0xFF00 % 16 == 15 then waited rules s
    else step_unstopped rules (record s { state = record s.state { stopped = false } })

-- the processor after n steps
unfoldable pub after_steps : {M : Type 0} → Rules M → ℕ → Processor M → Processor M
after_steps rules n s = iterate (λ t. (step_of rules t).after) n s
