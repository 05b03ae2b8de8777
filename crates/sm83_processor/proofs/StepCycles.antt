-- A step takes 1 to 6 M-cycles.
use Rattle.std.proofs.Common.{ℕ, ◌<◌, ◌≤◌, ◌%◌, Bool, true, false, arith}
use Rattle.std.specs.Prelude.{◌&&◌, ◌==◌, if◌then◌else◌}
use Rattle.opcode_table.specs.declared.instruction.Instr.{Instr}
use Rattle.opcode_table.specs.declared.instruction.Instr.TheVariants.{Nop, StoreSp, Stop, JumpRelative, JumpRelativeIf, LoadRegister16, AddHl, StoreAccumulator, LoadAccumulator, IncrementRegister16, DecrementRegister16, Increment, Decrement, LoadByte, Accumulator, Load, Halt, Operate, OperateByte, ReturnIf, StoreHigh, AddSp, LoadHigh, LoadHlSp, Pop, Return, ReturnFromInterrupt, JumpHl, LoadSpHl, JumpIf, StoreHighC, StoreAt, LoadHighC, LoadAt, Jump, DisableInterrupts, EnableInterrupts, CallIf, Push, Call, Restart, Shift, TestBit, ResetBit, SetBit, Undefined}
use Rattle.opcode_table.specs.Timing.{is_in_memory, cycles_of, cycles_taken_of}
use Rattle.sm83_processor.specs.Rules.{Rules}
use Rattle.sm83_processor.specs.Steps.{Step, step_of, waited, dispatched, ran, dispatched_or_ran, step_unstopped}
use Rattle.sm83_processor.specs.declared.processor.Processor.{Processor}

pub record AreCycles (n : ℕ) : Type 0 where
  pub some : 0 < n
  pub few : n ≤ 6

chosen : (b : Bool) (m n : ℕ) → AreCycles m → AreCycles n → AreCycles (if b then m else n)
chosen true m n first second = first
chosen false m n first second = second

one : AreCycles 1
one = record { some = omega arith; few = omega arith }

two : AreCycles 2
two = record { some = omega arith; few = omega arith }

three : AreCycles 3
three = record { some = omega arith; few = omega arith }

four : AreCycles 4
four = record { some = omega arith; few = omega arith }

five : AreCycles 5
five = record { some = omega arith; few = omega arith }

six : AreCycles 6
six = record { some = omega arith; few = omega arith }

cycles-bounds : (i : Instr) → AreCycles (cycles_of i)
cycles-bounds Nop = one
cycles-bounds (StoreSp w) = five
cycles-bounds Stop = one
cycles-bounds (JumpRelative b) = three
cycles-bounds (JumpRelativeIf c b) = two
cycles-bounds (LoadRegister16 r w) = three
cycles-bounds (AddHl r) = two
cycles-bounds (StoreAccumulator p) = two
cycles-bounds (LoadAccumulator p) = two
cycles-bounds (IncrementRegister16 r) = two
cycles-bounds (DecrementRegister16 r) = two
cycles-bounds (Increment r) = chosen (is_in_memory r) _ _ three one
cycles-bounds (Decrement r) = chosen (is_in_memory r) _ _ three one
cycles-bounds (LoadByte r b) = chosen (is_in_memory r) _ _ three two
cycles-bounds (Accumulator o) = one
cycles-bounds (Load r s) = chosen (is_in_memory r) _ _ two (chosen (is_in_memory s) _ _ two one)
cycles-bounds Halt = one
cycles-bounds (Operate o r) = chosen (is_in_memory r) _ _ two one
cycles-bounds (OperateByte o b) = two
cycles-bounds (ReturnIf c) = two
cycles-bounds (StoreHigh b) = three
cycles-bounds (AddSp b) = four
cycles-bounds (LoadHigh b) = three
cycles-bounds (LoadHlSp b) = three
cycles-bounds (Pop r) = three
cycles-bounds Return = four
cycles-bounds ReturnFromInterrupt = four
cycles-bounds JumpHl = one
cycles-bounds LoadSpHl = two
cycles-bounds (JumpIf c w) = three
cycles-bounds StoreHighC = two
cycles-bounds (StoreAt w) = four
cycles-bounds LoadHighC = two
cycles-bounds (LoadAt w) = four
cycles-bounds (Jump w) = four
cycles-bounds DisableInterrupts = one
cycles-bounds EnableInterrupts = one
cycles-bounds (CallIf c w) = three
cycles-bounds (Push r) = four
cycles-bounds (Call w) = six
cycles-bounds (Restart a) = four
cycles-bounds (Shift s r) = chosen (is_in_memory r) _ _ four two
cycles-bounds (TestBit n r) = chosen (is_in_memory r) _ _ three two
cycles-bounds (ResetBit n r) = chosen (is_in_memory r) _ _ four two
cycles-bounds (SetBit n r) = chosen (is_in_memory r) _ _ four two
cycles-bounds (Undefined o) = one

cycles_taken-bounds : (i : Instr) → AreCycles (cycles_taken_of i)
cycles_taken-bounds (JumpRelativeIf c b) = three
cycles_taken-bounds (JumpIf c w) = four
cycles_taken-bounds (CallIf c w) = six
cycles_taken-bounds (ReturnIf c) = five
cycles_taken-bounds i = cycles-bounds i

chosen_step : {M : Type 0} (b : Bool) (s t : Step M) → AreCycles s.stepped.cycles → AreCycles t.stepped.cycles → AreCycles (if b then s else t).stepped.cycles
chosen_step true s t first second = first
chosen_step false s t first second = second

pub ran-bounds : {M : Type 0} (r : Rules M) (p : Processor M) → AreCycles (ran r p).stepped.cycles
ran-bounds r p = chosen _ _ _ (cycles_taken-bounds _) (cycles-bounds _)

dispatched_or_ran-bounds : {M : Type 0} (r : Rules M) (p : Processor M) → AreCycles (dispatched_or_ran r p).stepped.cycles
dispatched_or_ran-bounds r p = chosen_step _ (dispatched r p) (ran r p) five (ran-bounds r p)

step_unstopped-bounds : {M : Type 0} (r : Rules M) (p : Processor M) → AreCycles (step_unstopped r p).stepped.cycles
step_unstopped-bounds r p = chosen_step _ (waited r p) (dispatched_or_ran r _) one (dispatched_or_ran-bounds r _)

pub step-bounds : {M : Type 0} (r : Rules M) (p : Processor M) → AreCycles (step_of r p).stepped.cycles
unfolding step_of
step-bounds {M} r p =
    let on : Processor M = record p { state = record p.state { stopped = false } } in
    let waits = p.state.stopped && r.value_at p.memory 0xFF00 % 16 == 15 in
    chosen_step p.state.locked (waited r p) (if waits then waited r p else step_unstopped r on) one (chosen_step waits (waited r p) (step_unstopped r on) one (step_unstopped-bounds r on))
