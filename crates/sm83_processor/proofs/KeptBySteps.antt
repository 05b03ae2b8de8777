-- What no access of the memory changes, no step changes.
use Rattle.std.proofs.Common.{ℕ, ◌/◌, ◌%◌, Bool, true, false, not}
use Rattle.std.specs.Prelude.{◌&&◌, ◌||◌, ◌==◌, if◌then◌else◌}
use Rattle.opcode_table.specs.declared.instruction.Operand8.{Operand8}
use Rattle.opcode_table.specs.declared.instruction.Operand8.TheVariants as operand
use Rattle.opcode_table.specs.declared.instruction.Instr.{Instr}
use Rattle.opcode_table.specs.declared.instruction.Instr.TheVariants as instr
use Rattle.sm83_processor.specs.declared.processor.Processor.{Processor}
use Rattle.sm83_processor.specs.Rules.{Rules}
use Rattle.sm83_processor.specs.RegisterOperations.{previous_address, condition_holds}
use Rattle.sm83_processor.specs.Execution.{executed, with_operand, pushed, at_pc}
use Rattle.sm83_processor.specs.Steps.{is_disabling, Step, step_of, lowest_interrupt, vector_of, passing, waited, dispatched, decoded_at, begun, with_ime_due, ran, dispatched_or_ran, step_unstopped}

-- a relation of a memory to a later one that each access and each M-cycle meets
pub record IsKept {M : Type 0} (r : Rules M) (R : M → M → Type 0) : Type 0 where
  pub itself : (m : M) → R m m
  pub follows : (a b c : M) → R a b → R b c → R a c
  pub written : (m : M) (address value : ℕ) → R m (r.written m address value)
  pub acknowledged : (m : M) (bit : ℕ) → R m (r.acknowledged m bit)
  pub passed : (m : M) (n : ℕ) → R m (r.passed m n)

module _ {M : Type 0} (r : Rules M) (R : M → M → Type 0) (k : IsKept r R) where
  either : (m : M) (b : Bool) (x y : Processor M) → R m x.memory → R m y.memory → R m (if b then x else y).memory
  either m true x y first second = first
  either m false x y first second = second

  by_operand : (p : Operand8) (n : ℕ) (s : Processor M) → R s.memory (with_operand r p n s).memory
  by_operand operand.B n s = k.itself s.memory
  by_operand operand.C n s = k.itself s.memory
  by_operand operand.D n s = k.itself s.memory
  by_operand operand.E n s = k.itself s.memory
  by_operand operand.H n s = k.itself s.memory
  by_operand operand.L n s = k.itself s.memory
  by_operand operand.AtHl n s = k.written s.memory _ n
  by_operand operand.A n s = k.itself s.memory

  by_push : (n : ℕ) (s : Processor M) → R s.memory (pushed r n s).memory
  by_push n s = k.follows _ _ _ (k.written s.memory (previous_address s.registers.sp) (n / 256)) (k.written _ _ _)

  by_instruction : (i : Instr) (s : Processor M) → R s.memory (executed r i s).memory
  by_instruction instr.Nop s = k.itself s.memory
  by_instruction (instr.StoreSp w) s = k.follows _ _ _ (k.written s.memory w (s.registers.sp % 256)) (k.written _ _ _)
  by_instruction instr.Stop s = k.written s.memory _ _
  by_instruction (instr.JumpRelative b) s = k.itself s.memory
  by_instruction (instr.JumpRelativeIf c b) s = either s.memory (condition_holds c s.registers.flags) _ _ (k.itself s.memory) (k.itself s.memory)
  by_instruction (instr.LoadRegister16 p w) s = k.itself s.memory
  by_instruction (instr.AddHl p) s = k.itself s.memory
  by_instruction (instr.StoreAccumulator p) s = k.written s.memory _ _
  by_instruction (instr.LoadAccumulator p) s = k.itself s.memory
  by_instruction (instr.IncrementRegister16 p) s = k.itself s.memory
  by_instruction (instr.DecrementRegister16 p) s = k.itself s.memory
  by_instruction (instr.Increment p) s = by_operand p _ _
  by_instruction (instr.Decrement p) s = by_operand p _ _
  by_instruction (instr.LoadByte p b) s = by_operand p b s
  by_instruction (instr.Accumulator o) s = k.itself s.memory
  by_instruction (instr.Load to from) s = by_operand to _ s
  by_instruction instr.Halt s = either s.memory (s.state.ime || s.state.ime_pending || r.pending_interrupts s.memory == 0) _ _ (k.itself s.memory) (k.itself s.memory)
  by_instruction (instr.Operate o p) s = k.itself s.memory
  by_instruction (instr.OperateByte o b) s = k.itself s.memory
  by_instruction (instr.ReturnIf c) s = either s.memory (condition_holds c s.registers.flags) _ _ (k.itself s.memory) (k.itself s.memory)
  by_instruction (instr.StoreHigh b) s = k.written s.memory _ _
  by_instruction (instr.AddSp b) s = k.itself s.memory
  by_instruction (instr.LoadHigh b) s = k.itself s.memory
  by_instruction (instr.LoadHlSp b) s = k.itself s.memory
  by_instruction (instr.Pop p) s = k.itself s.memory
  by_instruction instr.Return s = k.itself s.memory
  by_instruction instr.ReturnFromInterrupt s = k.itself s.memory
  by_instruction instr.JumpHl s = k.itself s.memory
  by_instruction instr.LoadSpHl s = k.itself s.memory
  by_instruction (instr.JumpIf c w) s = either s.memory (condition_holds c s.registers.flags) _ _ (k.itself s.memory) (k.itself s.memory)
  by_instruction instr.StoreHighC s = k.written s.memory _ _
  by_instruction (instr.StoreAt w) s = k.written s.memory _ _
  by_instruction instr.LoadHighC s = k.itself s.memory
  by_instruction (instr.LoadAt w) s = k.itself s.memory
  by_instruction (instr.Jump w) s = k.itself s.memory
  by_instruction instr.DisableInterrupts s = k.itself s.memory
  by_instruction instr.EnableInterrupts s = k.itself s.memory
  by_instruction (instr.CallIf c w) s = either s.memory (condition_holds c s.registers.flags) _ _ (by_push s.registers.pc s) (k.itself s.memory)
  by_instruction (instr.Push p) s = by_push _ s
  by_instruction (instr.Call w) s = by_push _ s
  by_instruction (instr.Restart n) s = by_push _ s
  by_instruction (instr.Shift h p) s = by_operand p _ _
  by_instruction (instr.TestBit n p) s = k.itself s.memory
  by_instruction (instr.ResetBit n p) s = by_operand p _ s
  by_instruction (instr.SetBit n p) s = by_operand p _ s
  by_instruction (instr.Undefined o) s = k.itself s.memory

  by_enabling : (m : M) (ime_pending : Bool) (i : Instr) (s : Processor M) → R m s.memory → R m (with_ime_due ime_pending i s).memory
  by_enabling m ime_pending i s before = either m (ime_pending && not (is_disabling i)) _ _ before before

  by_passing : (m : M) (n : ℕ) (s : Processor M) → R m s.memory → R m (passing r n s).memory
  by_passing m n s before = k.follows _ _ _ before (k.passed s.memory n)

  either_step : (m : M) (b : Bool) (x y : Step M) → R m x.after.memory → R m y.after.memory → R m (if b then x else y).after.memory
  either_step m true x y first second = first
  either_step m false x y first second = second

  by_running : (s : Processor M) → R s.memory (ran r s).after.memory
  by_running s =
      let d = decoded_at r s in
      let done : Processor M = executed r d.instr (begun d.length s) in
      by_passing s.memory (ran r s).stepped.cycles (with_ime_due s.state.ime_pending d.instr done)
      (by_enabling s.memory s.state.ime_pending d.instr done (by_instruction d.instr (begun d.length s)))

  by_dispatch : (s : Processor M) → R s.memory (dispatched r s).after.memory
  by_dispatch s =
      let bit = lowest_interrupt (r.pending_interrupts s.memory) in
      let quiet : Processor M = record s { state = record s.state { ime = false; ime_pending = false }; memory = r.acknowledged s.memory bit } in
      by_passing s.memory 5 (at_pc (vector_of bit) (pushed r s.registers.pc quiet))
      (k.follows _ _ _ (k.acknowledged s.memory bit) (by_push s.registers.pc quiet))

  by_resuming : (s : Processor M) → R s.memory (dispatched_or_ran r s).after.memory
  by_resuming s = either_step s.memory (s.state.ime && not (r.pending_interrupts s.memory == 0)) (dispatched r s) (ran r s) (by_dispatch s) (by_running s)

  by_wait : (s : Processor M) → R s.memory (waited r s).after.memory
  by_wait s = k.passed s.memory 1

  by_going_on : (s : Processor M) → R s.memory (step_unstopped r s).after.memory
  by_going_on s =
      let going : Processor M = record s { state = record s.state { halted = false } } in
      either_step s.memory (s.state.halted && r.pending_interrupts s.memory == 0) (waited r s) (dispatched_or_ran r going) (by_wait s) (by_resuming going)

  pub by_step : (s : Processor M) → R s.memory (step_of r s).after.memory
  unfolding step_of
  by_step s =
      let on : Processor M = record s { state = record s.state { stopped = false } } in
      let waits = s.state.stopped && r.value_at s.memory 0xFF00 % 16 == 15 in
      either_step s.memory s.state.locked (waited r s) (if waits then waited r s else step_unstopped r on) (by_wait s)
      (either_step s.memory waits (waited r s) (step_unstopped r on) (by_wait s) (by_going_on on))
