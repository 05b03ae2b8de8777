-- A step is its accesses, and then its M-cycles.
use Rattle.std.proofs.Common.{◌≡◌, ℕ, ◌%◌, Bool, true, false, not, List, refl, sym, ap, ◌∙◌}
use Rattle.std.specs.Prelude.{◌&&◌, ◌==◌, if◌then◌else◌}
use Rattle.opcode_table.specs.declared.instruction.Operand8.{Operand8}
use Rattle.opcode_table.specs.declared.instruction.Operand8.TheVariants as operand
use Rattle.opcode_table.specs.declared.instruction.Instr.{Instr}
use Rattle.opcode_table.specs.declared.instruction.Instr.TheVariants as instr
use Rattle.sm83_alu.specs.Arithmetic.{increment_of, decrement_of}
use Rattle.sm83_alu.specs.Bits.{tested_bit, without_bit, with_bit}
use Rattle.sm83_processor.specs.Rules.{Rules}
use Rattle.sm83_processor.specs.RegisterOperations.{operated, shifted}
use Rattle.sm83_processor.specs.Execution.{executed, operand_value, with_operand, with_outcome, with_registers, with_flags}
use Rattle.sm83_processor.specs.Steps.{Step, step_of, passing, waited, dispatched, decoded_at, begun, with_ime_due, ran, dispatched_or_ran, step_unstopped}
use Rattle.sm83_processor.specs.declared.processor.Processor.{Processor}
use Rattle.sm83_processor.specs.declared.step.Stepped.{Stepped}
use Rattle.std.specs.Fn.{iterate}
use Rattle.memory_map.specs.State.{BusState}
use Rattle.memory_map.specs.BusRules.{bus_rules}
use Rattle.memory_map.specs.Ticks.{tick}
use Rattle.machine.specs.Sent.{sent_in_cycles, sent_in_step, untimed}

-- a step, and the same one in which no M-cycle passes
pub record AreParts {M : Type 0} (r : Rules M) (whole accesses : Step M) : Type 0 where
  pub after : whole.after ≡ passing r whole.stepped.cycles accesses.after
  pub stepped : accesses.stepped ≡ whole.stepped

module _ {M : Type 0} (r : Rules M) where
  same_value : (p : Operand8) (s : Processor M) → operand_value (untimed r) p s ≡ operand_value r p s
  same_value operand.B s = refl
  same_value operand.C s = refl
  same_value operand.D s = refl
  same_value operand.E s = refl
  same_value operand.H s = refl
  same_value operand.L s = refl
  same_value operand.AtHl s = refl
  same_value operand.A s = refl

  same_operand : (p : Operand8) (n : ℕ) (s : Processor M) → with_operand (untimed r) p n s ≡ with_operand r p n s
  same_operand operand.B n s = refl
  same_operand operand.C n s = refl
  same_operand operand.D n s = refl
  same_operand operand.E n s = refl
  same_operand operand.H n s = refl
  same_operand operand.L n s = refl
  same_operand operand.AtHl n s = refl
  same_operand operand.A n s = refl

  same_instruction : (i : Instr) (s : Processor M) → executed (untimed r) i s ≡ executed r i s
  same_instruction instr.Nop s = refl
  same_instruction (instr.StoreSp w) s = refl
  same_instruction instr.Stop s = refl
  same_instruction (instr.JumpRelative b) s = refl
  same_instruction (instr.JumpRelativeIf c b) s = refl
  same_instruction (instr.LoadRegister16 p w) s = refl
  same_instruction (instr.AddHl p) s = refl
  same_instruction (instr.StoreAccumulator p) s = refl
  same_instruction (instr.LoadAccumulator p) s = refl
  same_instruction (instr.IncrementRegister16 p) s = refl
  same_instruction (instr.DecrementRegister16 p) s = refl
  same_instruction (instr.Increment p) s =
      same_operand p _ _ ∙ ap (λ (n : ℕ). with_outcome r p (increment_of n s.registers.flags) s) (same_value p s)
  same_instruction (instr.Decrement p) s =
      same_operand p _ _ ∙ ap (λ (n : ℕ). with_outcome r p (decrement_of n s.registers.flags) s) (same_value p s)
  same_instruction (instr.LoadByte p b) s = same_operand p b s
  same_instruction (instr.Accumulator o) s = refl
  same_instruction (instr.Load to from) s = same_operand to _ s ∙ ap (λ (n : ℕ). with_operand r to n s) (same_value from s)
  same_instruction instr.Halt s = refl
  same_instruction (instr.Operate o p) s = ap (λ (n : ℕ). with_registers (operated o n s.registers) s) (same_value p s)
  same_instruction (instr.OperateByte o b) s = refl
  same_instruction (instr.ReturnIf c) s = refl
  same_instruction (instr.StoreHigh b) s = refl
  same_instruction (instr.AddSp b) s = refl
  same_instruction (instr.LoadHigh b) s = refl
  same_instruction (instr.LoadHlSp b) s = refl
  same_instruction (instr.Pop p) s = refl
  same_instruction instr.Return s = refl
  same_instruction instr.ReturnFromInterrupt s = refl
  same_instruction instr.JumpHl s = refl
  same_instruction instr.LoadSpHl s = refl
  same_instruction (instr.JumpIf c w) s = refl
  same_instruction instr.StoreHighC s = refl
  same_instruction (instr.StoreAt w) s = refl
  same_instruction instr.LoadHighC s = refl
  same_instruction (instr.LoadAt w) s = refl
  same_instruction (instr.Jump w) s = refl
  same_instruction instr.DisableInterrupts s = refl
  same_instruction instr.EnableInterrupts s = refl
  same_instruction (instr.CallIf c w) s = refl
  same_instruction (instr.Push p) s = refl
  same_instruction (instr.Call w) s = refl
  same_instruction (instr.Restart n) s = refl
  same_instruction (instr.Shift h p) s =
      same_operand p _ _ ∙ ap (λ (n : ℕ). with_outcome r p (shifted h n s.registers.flags.carry) s) (same_value p s)
  same_instruction (instr.TestBit n p) s = ap (λ (v : ℕ). with_flags (tested_bit (n % 8) v s.registers.flags) s) (same_value p s)
  same_instruction (instr.ResetBit n p) s = same_operand p _ s ∙ ap (λ (v : ℕ). with_operand r p (without_bit (n % 8) v) s) (same_value p s)
  same_instruction (instr.SetBit n p) s = same_operand p _ s ∙ ap (λ (v : ℕ). with_operand r p (with_bit (n % 8) v) s) (same_value p s)
  same_instruction (instr.Undefined o) s = refl

  either_parts : (b : Bool) (x y x' y' : Step M) → AreParts r x x' → AreParts r y y' → AreParts r (if b then x else y) (if b then x' else y')
  either_parts true x y x' y' first second = first
  either_parts false x y x' y' first second = second

  wait_parts : (s : Processor M) → AreParts r (waited r s) (waited (untimed r) s)
  wait_parts s = record { after = refl; stepped = refl }

  dispatch_parts : (s : Processor M) → AreParts r (dispatched r s) (dispatched (untimed r) s)
  dispatch_parts s = record { after = refl; stepped = refl }

  run_parts : (s : Processor M) → AreParts r (ran r s) (ran (untimed r) s)
  run_parts s =
      let d = decoded_at r s in
      record {
        after = ap (λ (t : Processor M). passing r (ran r s).stepped.cycles (with_ime_due s.state.ime_pending d.instr t))
            (sym (same_instruction d.instr (begun d.length s)));
        stepped = refl;
      }

  resuming_parts : (s : Processor M) → AreParts r (dispatched_or_ran r s) (dispatched_or_ran (untimed r) s)
  resuming_parts s = either_parts (s.state.ime && not (r.pending_interrupts s.memory == 0)) _ _ _ _ (dispatch_parts s) (run_parts s)

  unstopped_parts : (s : Processor M) → AreParts r (step_unstopped r s) (step_unstopped (untimed r) s)
  unstopped_parts s =
      either_parts (s.state.halted && r.pending_interrupts s.memory == 0) _ _ _ _ (wait_parts s)
      (resuming_parts (record s { state = record s.state { halted = false } }))

  pub step_parts : (s : Processor M) → AreParts r (step_of r s) (step_of (untimed r) s)
  unfolding step_of
  step_parts s =
      let on : Processor M = record s { state = record s.state { stopped = false } } in
      let waits = s.state.stopped && r.value_at s.memory 0xFF00 % 16 == 15 in
      either_parts s.state.locked _ _ _ _ (wait_parts s)
      (either_parts waits (waited r s) (step_unstopped r on) (waited (untimed r) s) (step_unstopped (untimed r) on) (wait_parts s) (unstopped_parts on))

-- ---- over the bus

pub by_parts : (p t : Processor BusState) (b : BusState) (s : Stepped) → t ≡ (step_of (untimed bus_rules) p).after → s ≡ (step_of (untimed bus_rules) p).stepped
    → b ≡ iterate tick s.cycles t.memory → record t { memory = b } ≡ (step_of bus_rules p).after
by_parts p t b s e f g =
    let parts = step_parts bus_rules p in
    ap (λ (b : BusState). record t { memory = b }) g
    ∙ ap (λ (s : Stepped). passing bus_rules s.cycles t) (f ∙ parts.stepped)
    ∙ ap (passing bus_rules (step_of bus_rules p).stepped.cycles) e
    ∙ sym parts.after

pub sent_by_parts : (p t : Processor BusState) (s : Stepped) (bytes : List ℕ) → t ≡ (step_of (untimed bus_rules) p).after → s ≡ (step_of (untimed bus_rules) p).stepped
    → bytes ≡ sent_in_cycles s.cycles t.memory.serial.serial → bytes ≡ sent_in_step p
sent_by_parts p t s bytes e f g =
    let parts = step_parts bus_rules p in
    g ∙ ap (λ (s : Stepped). sent_in_cycles s.cycles t.memory.serial.serial) (f ∙ parts.stepped)
    ∙ ap (λ (t : Processor BusState). sent_in_cycles (step_of bus_rules p).stepped.cycles t.memory.serial.serial) e

pub stepped_by_parts : (p : Processor BusState) (s : Stepped) → s ≡ (step_of (untimed bus_rules) p).stepped → s ≡ (step_of bus_rules p).stepped
stepped_by_parts p s f = f ∙ (step_parts bus_rules p).stepped
