-- Which steps are still.
use Rattle.std.proofs.Common.{◌≡◌, ◌∙◌, ℕ, ◌%◌, Bool, true, false, not, List, [], ◌∷◌, Option, Some, None, refl, sym, ap, subst}
use Rattle.std.specs.Prelude.{◌&&◌, if◌then◌else◌}
use Rattle.opcode_table.specs.declared.instruction.Operand8.{Operand8}
use Rattle.opcode_table.specs.declared.instruction.Operand8.TheVariants as operand
use Rattle.opcode_table.specs.declared.instruction.Indirect.{Indirect}
use Rattle.opcode_table.specs.declared.instruction.Indirect.TheVariants as indirect
use Rattle.opcode_table.specs.declared.instruction.Instr.{Instr}
use Rattle.opcode_table.specs.declared.instruction.Instr.TheVariants as instr
use Rattle.opcode_table.specs.declared.decoding.Decoded.{Decoded}
use Rattle.opcode_table.specs.Timing.{decoded_of}
use Rattle.sm83_alu.specs.Arithmetic.{increment_of, decrement_of}
use Rattle.sm83_alu.specs.Bits.{tested_bit, without_bit, with_bit}
use Rattle.sm83_processor.specs.Rules.{Rules}
use Rattle.sm83_processor.specs.RegisterOperations.{next_address, condition_holds, is_taken, operated, shifted, after_access}
use Rattle.sm83_processor.specs.Execution.{executed, operand_value, with_operand, with_outcome, with_registers, with_flags, at_pc, jumped_relative}
use Rattle.sm83_processor.specs.Steps.{Step, step_of, passing, decoded_at, begun, is_disabling, with_ime_due}
use Rattle.sm83_processor.specs.FastStep.{IsFast}
use Rattle.sm83_processor.specs.StillSteps.{with_memory, HasSameBytes, IsStillIfTold, read_of_operand, read_of_register, read_by}
use Rattle.sm83_processor.specs.declared.processor.Processor.{Processor}
use Rattle.sm83_processor.specs.declared.step.StepKind.TheVariants.{Ran}
use Rattle.sm83_processor.proofs.FastSteps.{fast_step}

module _ {M : Type 0} (r : Rules M) (m : M) where
  -- the other memory has this byte of a memory
  abbrev HasByte : M → Option ℕ → Type 0
  HasByte n None = ⊥
  HasByte n (Some a) = r.value_at m a ≡ r.value_at n a

  -- ---- by instruction; the operand is found before PC moves

  same_value : (p : Operand8) (pc : ℕ) (s : Processor M) → HasByte s.memory (read_of_operand p (at_pc pc s).registers)
      → operand_value r p (with_memory m s) ≡ operand_value r p s
  same_value operand.B pc s has = refl
  same_value operand.C pc s has = refl
  same_value operand.D pc s has = refl
  same_value operand.E pc s has = refl
  same_value operand.H pc s has = refl
  same_value operand.L pc s has = refl
  same_value operand.AtHl pc s has = has
  same_value operand.A pc s has = refl

  same_register : (p : Operand8) (s : Processor M) → HasByte s.memory (read_of_register p) → operand_value r p (with_memory m s) ≡ operand_value r p s
  same_register operand.B s has = refl
  same_register operand.C s has = refl
  same_register operand.D s has = refl
  same_register operand.E s has = refl
  same_register operand.H s has = refl
  same_register operand.L s has = refl
  same_register operand.AtHl s has = absurd has
  same_register operand.A s has = refl

  same_set : (p : Operand8) (n : ℕ) (s : Processor M) → HasByte s.memory (read_of_register p)
      → with_operand r p n (with_memory m s) ≡ with_memory m (with_operand r p n s)
  same_set operand.B n s has = refl
  same_set operand.C n s has = refl
  same_set operand.D n s has = refl
  same_set operand.E n s has = refl
  same_set operand.H n s has = refl
  same_set operand.L n s has = refl
  same_set operand.AtHl n s has = absurd has
  same_set operand.A n s has = refl

  same_load : (to from : Operand8) (pc : ℕ) (s : Processor M) → HasByte s.memory (read_by (instr.Load to from) (at_pc pc s).registers)
      → executed r (instr.Load to from) (with_memory m s) ≡ with_memory m (executed r (instr.Load to from) s)
  same_load operand.B from pc s has = ap (λ (n : ℕ). with_operand r operand.B n (with_memory m s)) (same_value from pc s has)
  same_load operand.C from pc s has = ap (λ (n : ℕ). with_operand r operand.C n (with_memory m s)) (same_value from pc s has)
  same_load operand.D from pc s has = ap (λ (n : ℕ). with_operand r operand.D n (with_memory m s)) (same_value from pc s has)
  same_load operand.E from pc s has = ap (λ (n : ℕ). with_operand r operand.E n (with_memory m s)) (same_value from pc s has)
  same_load operand.H from pc s has = ap (λ (n : ℕ). with_operand r operand.H n (with_memory m s)) (same_value from pc s has)
  same_load operand.L from pc s has = ap (λ (n : ℕ). with_operand r operand.L n (with_memory m s)) (same_value from pc s has)
  same_load operand.AtHl from pc s has = absurd has
  same_load operand.A from pc s has = ap (λ (n : ℕ). with_operand r operand.A n (with_memory m s)) (same_value from pc s has)

  same_access : (p : Indirect) (pc : ℕ) (s : Processor M) → HasByte s.memory (read_by (instr.LoadAccumulator p) (at_pc pc s).registers)
      → executed r (instr.LoadAccumulator p) (with_memory m s) ≡ with_memory m (executed r (instr.LoadAccumulator p) s)
  same_access indirect.Bc pc s has = ap (λ (n : ℕ). with_registers (record (after_access indirect.Bc s.registers) { a = n }) (with_memory m s)) has
  same_access indirect.De pc s has = ap (λ (n : ℕ). with_registers (record (after_access indirect.De s.registers) { a = n }) (with_memory m s)) has
  same_access indirect.HlUp pc s has = ap (λ (n : ℕ). with_registers (record (after_access indirect.HlUp s.registers) { a = n }) (with_memory m s)) has
  same_access indirect.HlDown pc s has = ap (λ (n : ℕ). with_registers (record (after_access indirect.HlDown s.registers) { a = n }) (with_memory m s)) has

  either : (b : Bool) (x y : Processor M) → (if b then with_memory m x else with_memory m y) ≡ with_memory m (if b then x else y)
  either true x y = refl
  either false x y = refl

  same_instruction : (i : Instr) (pc : ℕ) (s : Processor M) → HasByte s.memory (read_by i (at_pc pc s).registers)
      → executed r i (with_memory m s) ≡ with_memory m (executed r i s)
  same_instruction instr.Nop pc s has = refl
  same_instruction (instr.JumpRelative b) pc s has = refl
  same_instruction (instr.JumpRelativeIf c b) pc s has = either (condition_holds c s.registers.flags) (jumped_relative b s) s
  same_instruction (instr.LoadRegister16 p w) pc s has = refl
  same_instruction (instr.AddHl p) pc s has = refl
  same_instruction (instr.LoadAccumulator p) pc s has = same_access p pc s has
  same_instruction (instr.IncrementRegister16 p) pc s has = refl
  same_instruction (instr.DecrementRegister16 p) pc s has = refl
  same_instruction (instr.Increment p) pc s has =
      ap (λ (n : ℕ). with_outcome r p (increment_of n s.registers.flags) (with_memory m s)) (same_register p s has) ∙ same_set p _ (with_flags _ s) has
  same_instruction (instr.Decrement p) pc s has =
      ap (λ (n : ℕ). with_outcome r p (decrement_of n s.registers.flags) (with_memory m s)) (same_register p s has) ∙ same_set p _ (with_flags _ s) has
  same_instruction (instr.LoadByte p b) pc s has = same_set p b s has
  same_instruction (instr.Accumulator o) pc s has = refl
  same_instruction (instr.Load to from) pc s has = same_load to from pc s has
  same_instruction (instr.Operate o p) pc s has = ap (λ (n : ℕ). with_registers (operated o n s.registers) (with_memory m s)) (same_value p pc s has)
  same_instruction (instr.OperateByte o b) pc s has = refl
  same_instruction (instr.LoadHigh b) pc s has = ap (λ (n : ℕ). with_registers (record s.registers { a = n }) (with_memory m s)) has
  same_instruction (instr.AddSp b) pc s has = refl
  same_instruction (instr.LoadHlSp b) pc s has = refl
  same_instruction instr.LoadSpHl pc s has = refl
  same_instruction instr.JumpHl pc s has = refl
  same_instruction (instr.JumpIf c w) pc s has = either (condition_holds c s.registers.flags) (at_pc w s) s
  same_instruction instr.LoadHighC pc s has = ap (λ (n : ℕ). with_registers (record s.registers { a = n }) (with_memory m s)) has
  same_instruction (instr.LoadAt w) pc s has = ap (λ (n : ℕ). with_registers (record s.registers { a = n }) (with_memory m s)) has
  same_instruction (instr.Jump w) pc s has = refl
  same_instruction (instr.Shift h p) pc s has =
      ap (λ (n : ℕ). with_outcome r p (shifted h n s.registers.flags.carry) (with_memory m s)) (same_register p s has) ∙ same_set p _ (with_flags _ s) has
  same_instruction (instr.TestBit n p) pc s has = ap (λ (v : ℕ). with_flags (tested_bit (n % 8) v s.registers.flags) (with_memory m s)) (same_value p pc s has)
  same_instruction (instr.ResetBit n p) pc s has =
      ap (λ (v : ℕ). with_operand r p (without_bit (n % 8) v) (with_memory m s)) (same_register p s has) ∙ same_set p _ s has
  same_instruction (instr.SetBit n p) pc s has =
      ap (λ (v : ℕ). with_operand r p (with_bit (n % 8) v) (with_memory m s)) (same_register p s has) ∙ same_set p _ s has
  same_instruction _ pc s has = absurd has

  -- ---- by step

  abbrev decoded_by : Bool → M → Processor M → Decoded
  decoded_by halt_bug n s =
      let second = if halt_bug then s.registers.pc else next_address s.registers.pc in
      decoded_of (r.value_at n s.registers.pc) (r.value_at n second) (r.value_at n (next_address second))

  abbrev bytes_by : Bool → M → Processor M → List ℕ
  bytes_by halt_bug n s =
      let second = if halt_bug then s.registers.pc else next_address s.registers.pc in
      r.value_at n s.registers.pc ∷ r.value_at n second ∷ r.value_at n (next_address second) ∷ []

  same_decoded : (p : Processor M) (address : ℕ) → HasSameBytes r p address m → decoded_by false m p ≡ decoded_by false p.memory p
  same_decoded p address same =
      let second = next_address p.registers.pc in
      ap (λ (n : ℕ). decoded_of n (r.value_at m second) (r.value_at m (next_address second))) same.first
      ∙ ap (λ (n : ℕ). decoded_of (r.value_at p.memory p.registers.pc) n (r.value_at m (next_address second))) same.second
      ∙ ap (λ (n : ℕ). decoded_of (r.value_at p.memory p.registers.pc) (r.value_at p.memory second) n) same.third

  same_bytes : (p : Processor M) (address : ℕ) → HasSameBytes r p address m → bytes_by false m p ≡ bytes_by false p.memory p
  same_bytes p address same =
      let second = next_address p.registers.pc in
      ap (λ (n : ℕ). n ∷ r.value_at m second ∷ r.value_at m (next_address second) ∷ []) same.first
      ∙ ap (λ (n : ℕ). r.value_at p.memory p.registers.pc ∷ n ∷ r.value_at m (next_address second) ∷ []) same.second
      ∙ ap (λ (n : ℕ). r.value_at p.memory p.registers.pc ∷ r.value_at p.memory second ∷ n ∷ []) same.third

  -- a step by its bytes
  abbrev ran_by : Decoded → List ℕ → Processor M → Step M
  ran_by d bytes s =
      let cycles = (if is_taken d.instr s.registers.flags then d.cycles_taken else d.cycles) in
      record {
        after = passing r cycles (with_ime_due s.state.ime_pending d.instr (executed r d.instr (begun d.length s)));
        stepped = record { kind = Ran (record { pc = s.registers.pc; bytes = bytes; length = d.length }); cycles = cycles };
      }

  same_enabling : (b : Bool) (i : Instr) (s : Processor M) → with_ime_due b i (with_memory m s) ≡ with_memory m (with_ime_due b i s)
  same_enabling b i s = either (b && not (is_disabling i)) (record s { state = record s.state { ime = true; ime_pending = false } }) s

  abbrev with_passed : ℕ → Step M → Step M
  with_passed cycles s = record { after = with_memory (r.passed m cycles) s.after; stepped = s.stepped }

  same_run : (d : Decoded) (bytes : List ℕ) (p : Processor M) → HasByte p.memory (read_by d.instr p.registers)
      → ran_by d bytes (with_memory m p) ≡ with_passed (ran_by d bytes p).stepped.cycles (ran_by d bytes p)
  same_run d bytes p has =
      let whole = ran_by d bytes p in
      let begins : Processor M = begun d.length p in
      ap (λ (s : Processor M). record { after = passing r whole.stepped.cycles (with_ime_due p.state.ime_pending d.instr s); stepped = whole.stepped })
      (same_instruction d.instr p.registers.pc begins has)
      ∙ ap (λ (s : Processor M). record { after = passing r whole.stepped.cycles s; stepped = whole.stepped })
      (same_enabling p.state.ime_pending d.instr (executed r d.instr begins))

  same_step : (p : Processor M) (address : ℕ) → Some address ≡ read_by (decoded_at r p).instr p.registers → HasSameBytes r p address m
      → IsFast r p → IsFast r (with_memory m p) → step_of r (with_memory m p) ≡ with_passed (step_of r p).stepped.cycles (step_of r p)
  same_step p address told same fast also =
      let plain = fast.usual.halt_bug in
      let decoded : decoded_at r (with_memory m p) ≡ decoded_at r p =
      ap (λ (b : Bool). decoded_by b m p) plain ∙ same_decoded p address same ∙ sym (ap (λ (b : Bool). decoded_by b p.memory p) plain) in
      let bytes : bytes_by p.state.halt_bug m p ≡ bytes_by p.state.halt_bug p.memory p =
      ap (λ (b : Bool). bytes_by b m p) plain ∙ same_bytes p address same ∙ sym (ap (λ (b : Bool). bytes_by b p.memory p) plain) in
      fast_step r (with_memory m p) also
      ∙ ap (λ (d : Decoded). ran_by d (bytes_by p.state.halt_bug m p) (with_memory m p)) decoded
      ∙ ap (λ (xs : List ℕ). ran_by (decoded_at r p) xs (with_memory m p)) bytes
      ∙ same_run (decoded_at r p) (bytes_by p.state.halt_bug p.memory p) p (subst (HasByte p.memory) told same.operand)
      ∙ sym (ap (λ (s : Step M). with_passed s.stepped.cycles s) (fast_step r p fast))

pub still_if_told : {M : Type 0} (r : Rules M) (p : Processor M) (told : Option ℕ) → told ≡ read_by (decoded_at r p).instr p.registers → IsStillIfTold r told p
still_if_told r p None e = tt
still_if_told r p (Some address) e = λ m same fast also. same_step r m p address e same fast also
