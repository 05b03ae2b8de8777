-- A fast step is its instruction.
use Rattle.std.proofs.Common.{◌≡◌, ◌∙◌, ℕ, Bool, false, cond, List, [], ◌∷◌, slice_index, sym, ap}
use Rattle.std.specs.Prelude.{◌&&◌, ◌==◌, ◌%◌, if◌then◌else◌}
use Rattle.sm83_processor.specs.Rules.{Rules}
use Rattle.sm83_processor.specs.Steps.{Step, step_of, step_unstopped, dispatched_or_ran, dispatched, ran, waited, passing, with_ime_due, byte_at, second_address, decoded_at}
use Rattle.sm83_processor.specs.Opcodes.{after_fetch, after_any_fetch, instruction_at, executed_after_fetch, cycles_with}
use Rattle.sm83_processor.specs.RegisterOperations.{next_address}
use Rattle.sm83_processor.specs.FastStep.{IsFast}
use Rattle.sm83_processor.specs.declared.processor.Processor.{Processor}
use Rattle.opcode_table.specs.Table.{instruction_of}
use Rattle.opcode_table.specs.Timing.{length_of}
use Rattle.sm83_processor.specs.declared.step.Stepped.{Stepped}
use Rattle.sm83_processor.specs.declared.step.StepKind.TheVariants.{Ran}

abbrev on_of : {M : Type 0} → Bool → Processor M → Processor M
on_of b p = record p { state = record p.state { stopped = b } }

abbrev going_of : {M : Type 0} → Bool → Processor M → Processor M
going_of b p = record p { state = record p.state { halted = b } }

pub fast_step : {M : Type 0} (r : Rules M) (p : Processor M) → IsFast r p → step_of r p ≡ ran r p
unfolding step_of
fast_step r p fast =
    ap (λ b. cond b (waited r p) (cond (p.state.stopped && r.value_at p.memory 0xFF00 % 16 == 15) (waited r p) (step_unstopped r (on_of false p)))) fast.usual.locked
    ∙ ap (λ b. cond (b && r.value_at p.memory 0xFF00 % 16 == 15) (waited r p) (step_unstopped r (on_of false p))) fast.usual.stopped
    ∙ ap (λ b. step_unstopped r (on_of b p)) (sym fast.usual.stopped)
    ∙ ap (λ b. cond (b && r.pending_interrupts p.memory == 0) (waited r p) (dispatched_or_ran r (going_of false p))) fast.usual.halted
    ∙ ap (λ b. dispatched_or_ran r (going_of b p)) (sym fast.usual.halted)
    ∙ ap (λ b. cond b (dispatched r p) (ran r p)) fast.uninterrupted

abbrev opcode_at : {M : Type 0} → Rules M → Processor M → ℕ
opcode_at r p = byte_at r p.registers.pc p

abbrev taking : {M : Type 0} → Processor M → Bool → Bool → Processor M
taking p before after = record p {
  registers = record p.registers { pc = if before then p.registers.pc else next_address p.registers.pc };
  state = record p.state { halt_bug = after };
}

opens : {M : Type 0} (p : Processor M) → p.state.halt_bug ≡ false → after_fetch p ≡ after_any_fetch p
opens p e = ap (λ (b : Bool). taking p false b) e ∙ sym (ap (λ (b : Bool). taking p b false) e)

-- what is known of an instruction that ran by its opcode, and of the M-cycles that passed after it
pub fast_after : {M : Type 0} (r : Rules M) (opcode cycles : ℕ) (p q : Processor M) (memory : M) → IsFast r p → opcode ≡ opcode_at r p
    → q ≡ executed_after_fetch r (instruction_at r opcode (after_fetch p)) (after_fetch p) → cycles ≡ cycles_with (instruction_at r opcode (after_fetch p)) p.registers.flags
    → memory ≡ r.passed q.memory cycles → record q { memory = memory } ≡ (step_of r p).after
fast_after {M} r opcode cycles p q memory fast e f g h =
    let i = instruction_at r (opcode_at r p) (after_any_fetch p) in
    let same = opens p fast.usual.halt_bug in
    ap (λ (m : M). record q { memory = m }) h
    ∙ ap (passing r cycles) f
    ∙ ap (λ (n : ℕ). passing r n (executed_after_fetch r (instruction_at r opcode (after_fetch p)) (after_fetch p))) g
    ∙ ap (λ (o : ℕ). passing r (cycles_with (instruction_at r o (after_fetch p)) p.registers.flags) (executed_after_fetch r (instruction_at r o (after_fetch p)) (after_fetch p))) e
    ∙ ap (λ (s : Processor M). passing r (cycles_with (instruction_at r (opcode_at r p) s) p.registers.flags) (executed_after_fetch r (instruction_at r (opcode_at r p) s) s)) same
    ∙ ap (λ (b : Bool). passing r (cycles_with i p.registers.flags) (with_ime_due b i (executed_after_fetch r i (after_any_fetch p)))) (sym fast.usual.ime_pending)
    ∙ sym (ap (λ (s : Step M). s.after) (fast_step r p fast))

pub fast_cycles : {M : Type 0} (r : Rules M) (opcode cycles : ℕ) (p : Processor M) → IsFast r p → opcode ≡ opcode_at r p
    → cycles ≡ cycles_with (instruction_at r opcode (after_fetch p)) p.registers.flags → cycles ≡ (step_of r p).stepped.cycles
fast_cycles {M} r opcode cycles p fast e g =
    g ∙ ap (λ (o : ℕ). cycles_with (instruction_at r o (after_fetch p)) p.registers.flags) e
    ∙ ap (λ (s : Processor M). cycles_with (instruction_at r (opcode_at r p) s) p.registers.flags) (opens p fast.usual.halt_bug)
    ∙ sym (ap (λ (s : Step M). s.stepped.cycles) (fast_step r p fast))

abbrev stepped_with : ℕ → List ℕ → ℕ → ℕ → Stepped
stepped_with pc bytes length cycles = record { kind = Ran (record { pc = pc; bytes = bytes; length = length }); cycles = cycles }

abbrev bytes_at : {M : Type 0} → Rules M → Processor M → List ℕ
bytes_at r p = byte_at r p.registers.pc p ∷ byte_at r (second_address p) p ∷ byte_at r (next_address (second_address p)) p ∷ []

abbrev bytes_by : {M : Type 0} → Rules M → Bool → Processor M → List ℕ
bytes_by r halt_bug p =
    let second = if halt_bug then p.registers.pc else next_address p.registers.pc in
    byte_at r p.registers.pc p ∷ byte_at r second p ∷ byte_at r (next_address second) p ∷ []

-- the three bytes that a fast step fetches
pub fast_fetched : {M : Type 0} (r : Rules M) (p : Processor M) → IsFast r p
    → byte_at r p.registers.pc p ∷ byte_at r (next_address p.registers.pc) p ∷ byte_at r (next_address (next_address p.registers.pc)) p ∷ []
    ≡ byte_at r p.registers.pc p ∷ byte_at r (second_address p) p ∷ byte_at r (next_address (second_address p)) p ∷ []
fast_fetched r p fast = ap (λ (b : Bool). bytes_by r b p) (sym fast.usual.halt_bug)

-- what is known of a fast step that is reported
pub fast_reported : {M : Type 0} (r : Rules M) (bytes : List ℕ) (length cycles : ℕ) (p : Processor M) → IsFast r p
    → bytes ≡ byte_at r p.registers.pc p ∷ byte_at r (second_address p) p ∷ byte_at r (next_address (second_address p)) p ∷ []
    → ((low high : ℕ) → length ≡ length_of (instruction_of (slice_index bytes 0) low high)) → cycles ≡ (step_of r p).stepped.cycles
    → record { kind = Ran (record { pc = p.registers.pc; bytes = bytes; length = length }); cycles = cycles } ≡ (step_of r p).stepped
fast_reported {M} r bytes length cycles p fast e f g =
    let low = byte_at r (second_address p) p in
    let high = byte_at r (next_address (second_address p)) p in
    ap (λ (bs : List ℕ). stepped_with p.registers.pc bs length cycles) e
    ∙ ap (λ (n : ℕ). stepped_with p.registers.pc (bytes_at r p) n cycles) (f low high ∙ ap (λ (bs : List ℕ). length_of (instruction_of (slice_index bs 0) low high)) e)
    ∙ ap (λ (n : ℕ). stepped_with p.registers.pc (bytes_at r p) (decoded_at r p).length n) (g ∙ ap (λ (s : Step M). s.stepped.cycles) (fast_step r p fast))
    ∙ sym (ap (λ (s : Step M). s.stepped) (fast_step r p fast))
