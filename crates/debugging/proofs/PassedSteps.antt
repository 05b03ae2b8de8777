-- Fast steps that access none of some addresses.
use Rattle.std.proofs.Common.{◌≡◌, ◌∙◌, ℕ, zero, suc, Bool, true, false, List, [], ◌∷◌, refl, ap, subst, arith}
use Rattle.std.specs.Prelude.{◌==◌, ◌&&◌, ◌||◌, not, nat_lt, if◌then◌else◌}
use Rattle.std.specs.Fn.{iterate}
use Rattle.std.specs.List.{list_any}
use Rattle.std.proofs.lemmas.Bool.Decides.{nat_tests}
use Rattle.opcode_table.specs.Table.{instruction_of}
use Rattle.opcode_table.specs.declared.decoding.Decoded.{Decoded}
use Rattle.opcode_table.specs.declared.instruction.Indirect.{Indirect}
use Rattle.opcode_table.specs.declared.instruction.Indirect.TheVariants as indirect
use Rattle.opcode_table.specs.declared.instruction.Instr.{Instr}
use Rattle.opcode_table.specs.declared.instruction.Instr.TheVariants as instr
use Rattle.opcode_table.specs.declared.instruction.Operand8.{Operand8}
use Rattle.opcode_table.specs.declared.instruction.Operand8.TheVariants as operand
use Rattle.sm83_alu.specs.declared.register_file.Outcome.{Outcome}
use Rattle.sm83_processor.specs.Rules.{Rules}
use Rattle.sm83_processor.specs.Execution.{at_pc, called, executed, high_address, jumped_relative, pushed, returned, with_operand, with_outcome}
use Rattle.sm83_processor.specs.FastStep.{IsFast}
use Rattle.sm83_processor.specs.RegisterOperations.{condition_holds, indirect_address, next_address}
use Rattle.sm83_processor.specs.RegisterPairs.{hl_of}
use Rattle.sm83_processor.specs.Steps.{Step, begun, byte_at, decoded_at, is_disabling, ran, second_address}
use Rattle.sm83_processor.specs.declared.processor.Processor.{Processor}
use Rattle.sm83_processor.specs.declared.processor.ProcessorState.{ProcessorState}
use Rattle.sm83_processor.proofs.FastSteps.{fast_step}
use Rattle.memory_map.specs.Bus.{read_at}
use Rattle.memory_map.specs.BusRules.{bus_rules}
use Rattle.memory_map.specs.State.{BusState}
use Rattle.debugging.specs.declared.order.Span.{Span}
use Rattle.debugging.specs.Accesses.{Watched, copied_of, cycle_noted, instruction_reads, is_in, is_reading, is_writing, operand_reads, step_reads, watched, watched_step, watching, write_noted}
use Rattle.debugging.specs.Passing.{StoresNothing, LoadsNothing, instruction_writes, only_dma, pushed_writes}
use Rattle.debugging.specs.Run.{has_run, is_before}

absurd_true : {A : Type 0} → true ≡ false → A
absurd_true e = cc

first_fails : (a b : Bool) → (a || b) ≡ false → a ≡ false
first_fails true b e = absurd_true e
first_fails false b e = refl

second_fails : (a b : Bool) → (a || b) ≡ false → b ≡ false
second_fails true b e = absurd_true e
second_fails false b e = e

-- ---- a fact that each write keeps but those to some addresses, by instruction; the addresses are found before PC moves

module _ {M : Type 0} (r : Rules M) (Holds : M → Type 0) (off : ℕ → Bool) (keeps : (m : M) (a v : ℕ) → off a ≡ false → Holds m → Holds (r.written m a v)) where
  one_written : (m : M) (a v : ℕ) → list_any off (a ∷ []) ≡ false → Holds m → Holds (r.written m a v)
  one_written m a v none holds = keeps m a v (first_fails (off a) false none) holds

  two_written : (m : M) (a b v w : ℕ) → list_any off (a ∷ b ∷ []) ≡ false → Holds m → Holds (r.written (r.written m a v) b w)
  two_written m a b v w none holds =
      keeps (r.written m a v) b w (first_fails (off b) false (second_fails (off a) (off b || false) none)) (keeps m a v (first_fails (off a) (off b || false) none) holds)

  operand_set : (p : Operand8) (pc n : ℕ) (s : Processor M) → list_any off (operand_reads p (at_pc pc s).registers) ≡ false → Holds s.memory → Holds (with_operand r p n s).memory
  operand_set operand.B pc n s none holds = holds
  operand_set operand.C pc n s none holds = holds
  operand_set operand.D pc n s none holds = holds
  operand_set operand.E pc n s none holds = holds
  operand_set operand.H pc n s none holds = holds
  operand_set operand.L pc n s none holds = holds
  operand_set operand.AtHl pc n s none holds = one_written s.memory (hl_of s.registers) n none holds
  operand_set operand.A pc n s none holds = holds

  outcome_set : (p : Operand8) (pc : ℕ) (o : Outcome) (s : Processor M) → list_any off (operand_reads p (at_pc pc s).registers) ≡ false → Holds s.memory → Holds (with_outcome r p o s).memory
  outcome_set operand.B pc o s none holds = holds
  outcome_set operand.C pc o s none holds = holds
  outcome_set operand.D pc o s none holds = holds
  outcome_set operand.E pc o s none holds = holds
  outcome_set operand.H pc o s none holds = holds
  outcome_set operand.L pc o s none holds = holds
  outcome_set operand.AtHl pc o s none holds = one_written s.memory (hl_of s.registers) o.value none holds
  outcome_set operand.A pc o s none holds = holds

  either_kept : (b : Bool) (s t : Processor M) → Holds s.memory → Holds t.memory → Holds (if b then s else t).memory
  either_kept true s t holds also = holds
  either_kept false s t holds also = also

  pushed_kept : (pc n : ℕ) (s : Processor M) → list_any off (pushed_writes (at_pc pc s).registers) ≡ false → Holds s.memory → Holds (pushed r n s).memory
  pushed_kept pc n s none holds = two_written s.memory _ _ _ _ none holds

  stored_kept : (p : Indirect) (pc : ℕ) (s : Processor M) → list_any off (indirect_address p (at_pc pc s).registers ∷ []) ≡ false → Holds s.memory
      → Holds (executed r (instr.StoreAccumulator p) s).memory
  stored_kept indirect.Bc pc s none holds = one_written s.memory (indirect_address indirect.Bc s.registers) s.registers.a none holds
  stored_kept indirect.De pc s none holds = one_written s.memory (indirect_address indirect.De s.registers) s.registers.a none holds
  stored_kept indirect.HlUp pc s none holds = one_written s.memory (indirect_address indirect.HlUp s.registers) s.registers.a none holds
  stored_kept indirect.HlDown pc s none holds = one_written s.memory (indirect_address indirect.HlDown s.registers) s.registers.a none holds

  call_kept : (b : Bool) (pc w : ℕ) (s : Processor M) → list_any off (if b then pushed_writes (at_pc pc s).registers else []) ≡ false → Holds s.memory → Holds (if b then called r w s else s).memory
  call_kept true pc w s none holds = pushed_kept pc s.registers.pc s none holds
  call_kept false pc w s none holds = holds

  pub instruction_kept : (i : Instr) (pc : ℕ) (s : Processor M) → list_any off (instruction_writes i (at_pc pc s).registers) ≡ false → Holds s.memory → Holds (executed r i s).memory
  instruction_kept (instr.StoreSp w) pc s none holds = two_written s.memory w (next_address w) _ _ none holds
  instruction_kept instr.Stop pc s none holds = one_written s.memory 0xFF04 0 none holds
  instruction_kept (instr.JumpRelativeIf c b) pc s none holds = either_kept (condition_holds c s.registers.flags) (jumped_relative b s) s holds holds
  instruction_kept (instr.StoreAccumulator p) pc s none holds = stored_kept p pc s none holds
  instruction_kept (instr.Increment p) pc s none holds = outcome_set p pc _ s none holds
  instruction_kept (instr.Decrement p) pc s none holds = outcome_set p pc _ s none holds
  instruction_kept (instr.LoadByte p b) pc s none holds = operand_set p pc b s none holds
  instruction_kept (instr.Load to from) pc s none holds = operand_set to pc _ s none holds
  instruction_kept instr.Halt pc s none holds =
      either_kept (s.state.ime || s.state.ime_pending || r.pending_interrupts s.memory == 0)
      (record s { state = record s.state { halted = true } }) (record s { state = record s.state { halt_bug = true } }) holds holds
  instruction_kept (instr.ReturnIf c) pc s none holds = either_kept (condition_holds c s.registers.flags) (returned r s) s holds holds
  instruction_kept (instr.StoreHigh b) pc s none holds = one_written s.memory (high_address b) s.registers.a none holds
  instruction_kept (instr.JumpIf c w) pc s none holds = either_kept (condition_holds c s.registers.flags) (at_pc w s) s holds holds
  instruction_kept instr.StoreHighC pc s none holds = one_written s.memory (high_address s.registers.c) s.registers.a none holds
  instruction_kept (instr.StoreAt w) pc s none holds = one_written s.memory w s.registers.a none holds
  instruction_kept (instr.CallIf c w) pc s none holds = call_kept (condition_holds c s.registers.flags) pc w s none holds
  instruction_kept (instr.Push p) pc s none holds = pushed_kept pc _ s none holds
  instruction_kept (instr.Call w) pc s none holds = pushed_kept pc s.registers.pc s none holds
  instruction_kept (instr.Restart n) pc s none holds = pushed_kept pc s.registers.pc s none holds
  instruction_kept (instr.Shift h p) pc s none holds = outcome_set p pc _ s none holds
  instruction_kept (instr.ResetBit n p) pc s none holds = operand_set p pc _ s none holds
  instruction_kept (instr.SetBit n p) pc s none holds = operand_set p pc _ s none holds
  instruction_kept _ pc s none holds = holds

-- ---- a bus that is watched

no_copy_begun : (w : Watched) (a v : ℕ) → is_in only_dma a ≡ false → w.dma_copied ≡ 160 → (write_noted a v w).dma_copied ≡ 160
no_copy_begun w a v off none =
    let other : (a == 0xFF46) ≡ false = grind (arith, nat_tests) in
    ap (λ (b : Bool). if b then 0 else w.dma_copied) other ∙ none

none_written : (span : Span) (w : Watched) (a v : ℕ) → is_in span a ≡ false → (w.span ≡ span) × (w.is_written ≡ false)
    → ((write_noted a v w).span ≡ span) × ((write_noted a v w).is_written ≡ false)
none_written span w a v off (same, none) = (same, ap (λ (b : Bool). b || is_in w.span a) none ∙ ap (λ (x : Span). is_in x a) same ∙ off)

cycle_still : (w : Watched) → w.dma_copied ≡ 160 → cycle_noted w ≡ w
cycle_still w none =
    let over : nat_lt w.dma_copied 160 ≡ false = ap (λ (n : ℕ). nat_lt n 160) none in
    rw over refl

cycles_still : (n : ℕ) (w : Watched) → w.dma_copied ≡ 160 → iterate cycle_noted n w ≡ w
cycles_still zero w none = refl
cycles_still (suc n) w none = ap (iterate cycle_noted n) (cycle_still w none) ∙ cycles_still n w none

-- ---- by step

either_memory : {M : Type 0} (b : Bool) (s : Processor M) (x : ProcessorState) → (if b then record s { state = x } else s).memory ≡ s.memory
either_memory true s x = refl
either_memory false s x = refl

module _ (span : Span) (p : Processor BusState) (fast : IsFast bus_rules p) where
  fast_watched : IsFast watching (watched span p)
  fast_watched = record { usual = fast.usual; uninterrupted = fast.uninterrupted }

  abbrev next_row : Decoded
  next_row = decoded_at bus_rules p

  -- as the instruction begins, and the bus that it leaves
  abbrev begins : Processor Watched
  begins = begun next_row.length (watched span p)

  abbrev leaves : Watched
  leaves = (executed watching next_row.instr begins).memory

  watched_ran : watched_step span p ≡ ran watching (watched span p)
  watched_ran = fast_step watching (watched span p) fast_watched

  left_by_step : leaves.dma_copied ≡ 160 → (watched_step span p).after.memory ≡ leaves
  left_by_step none =
      let left = executed watching next_row.instr begins in
      let cycles : ℕ = (ran watching (watched span p)).stepped.cycles in
      ap (λ (s : Step Watched). s.after.memory) watched_ran
      ∙ ap (iterate cycle_noted cycles) (either_memory (p.state.ime_pending && not (is_disabling next_row.instr)) left (record left.state { ime = true; ime_pending = false }))
      ∙ cycles_still cycles leaves none

  module _ (none : copied_of p.memory ≡ 160) (begins_none : list_any (is_in only_dma) (instruction_writes next_row.instr p.registers) ≡ false) where
    none_begun : leaves.dma_copied ≡ 160
    none_begun = instruction_kept watching (λ (w : Watched). w.dma_copied ≡ 160) (is_in only_dma) no_copy_begun next_row.instr p.registers.pc begins begins_none none

    pub not_writing : list_any (is_in span) (instruction_writes next_row.instr p.registers) ≡ false → is_writing span p ≡ false
    not_writing off =
        let unwritten =
        instruction_kept watching (λ (w : Watched). (w.span ≡ span) × (w.is_written ≡ false)) (is_in span) (none_written span) next_row.instr p.registers.pc begins off (refl, refl) in
        ap (λ (w : Watched). w.is_written) (left_by_step none_begun) ∙ unwritten.1

    pub not_reading : list_any (is_in span) (instruction_reads next_row.instr p.registers) ≡ false → is_reading span p ≡ false
    not_reading off =
        let unread : leaves.is_read ≡ false =
        instruction_kept watching (λ (w : Watched). w.is_read ≡ false) (is_in only_dma) (λ w a v _ unread. unread) next_row.instr p.registers.pc begins begins_none refl in
        let unnamed : list_any (is_in span) (step_reads (watched_step span p).stepped.kind p.registers) ≡ false =
        ap (λ (s : Step Watched). list_any (is_in span) (step_reads s.stepped.kind p.registers)) watched_ran ∙ off in
        ap (λ (b : Bool). b || (watched_step span p).after.memory.is_read) unnamed
        ∙ ap (λ (w : Watched). w.is_read) (left_by_step none_begun) ∙ unread

pub none_of_none : (off : ℕ → Bool) {xs : List ℕ} → xs ≡ [] → list_any off xs ≡ false
none_of_none off nothing = ap (list_any off) nothing

-- by the opcode alone
pub stores_none : (off : ℕ → Bool) (p : Processor BusState) (opcode : ℕ) → opcode ≡ read_at p.memory p.registers.pc → StoresNothing opcode
    → list_any off (instruction_writes (decoded_at bus_rules p).instr p.registers) ≡ false
stores_none off p opcode is nothing =
    let second = byte_at bus_rules (second_address p) p in
    let third = byte_at bus_rules (next_address (second_address p)) p in
    ap (list_any off) (subst (λ (o : ℕ). instruction_writes (instruction_of o second third) p.registers ≡ []) is (nothing second third p.registers))

pub loads_none : (off : ℕ → Bool) (p : Processor BusState) (opcode : ℕ) → opcode ≡ read_at p.memory p.registers.pc → LoadsNothing opcode
    → list_any off (instruction_reads (decoded_at bus_rules p).instr p.registers) ≡ false
loads_none off p opcode is nothing =
    let second = byte_at bus_rules (second_address p) p in
    let third = byte_at bus_rules (next_address (second_address p)) p in
    ap (list_any off) (subst (λ (o : ℕ). instruction_reads (instruction_of o second third) p.registers ≡ []) is (nothing second third p.registers))

-- ---- opcodes

pub runs_opcode : (opcode : ℕ) (p : Processor BusState) → IsFast bus_rules p → is_before opcode p ≡ (read_at p.memory p.registers.pc == opcode)
runs_opcode opcode p fast = ap (λ (s : Step BusState). has_run opcode s.stepped.kind) (fast_step bus_rules p fast)
