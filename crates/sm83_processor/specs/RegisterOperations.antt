-- What instructions do to the registers alone (Pan Docs, 'CPU Instruction Set').
use Rattle.std.specs.Prelude.{ℕ, Bool, true, false, not, bit_and, bit_or, bit_xor}
use Rattle.sm83_alu.specs.declared.register_file.Registers.{Registers}
use Rattle.sm83_alu.specs.declared.register_file.Flags.{Flags}
use Rattle.sm83_alu.specs.declared.register_file.Outcome.{Outcome}
use Rattle.sm83_alu.specs.Flags.{digit_of}
use Rattle.sm83_alu.specs.Arithmetic.{sum_of, difference_of, decimal_of, next_word, previous_word}
use Rattle.sm83_alu.specs.Bits.{outcome_of, rotated_left, rotated_right, rotated_left_through, rotated_right_through, shifted_left_arithmetic, shifted_right_logical, shifted_right_arithmetic, swapped_nibbles, with_zero_clear, complement_of, with_carry_set, with_carry_flipped}
use Rattle.opcode_table.specs.declared.instruction.Operation.{Operation}
use Rattle.opcode_table.specs.declared.instruction.Operation.TheVariants as operation
use Rattle.opcode_table.specs.declared.instruction.AccumulatorOperation.{AccumulatorOperation}
use Rattle.opcode_table.specs.declared.instruction.AccumulatorOperation.TheVariants as accumulator
use Rattle.opcode_table.specs.declared.instruction.Shift.{Shift}
use Rattle.opcode_table.specs.declared.instruction.Shift.TheVariants as shift
use Rattle.opcode_table.specs.declared.instruction.Condition.{Condition}
use Rattle.opcode_table.specs.declared.instruction.Condition.TheVariants as condition
use Rattle.opcode_table.specs.declared.instruction.Instr.{Instr}
use Rattle.opcode_table.specs.declared.instruction.Instr.TheVariants as instr
use Rattle.opcode_table.specs.declared.instruction.Indirect.{Indirect}
use Rattle.opcode_table.specs.declared.instruction.Indirect.TheVariants as indirect
use Rattle.sm83_processor.specs.RegisterPairs.{bc_of, de_of, hl_of, with_hl}

-- addresses wrap around at 65536
abbrev pub next_address : ℕ → ℕ
next_address n = next_word n

abbrev pub previous_address : ℕ → ℕ
previous_address n = previous_word n

abbrev pub condition_holds : Condition → Flags → Bool
condition_holds condition.NotZero f = not f.zero
condition_holds condition.Zero f = f.zero
condition_holds condition.NotCarry f = not f.carry
condition_holds condition.Carry f = f.carry

-- whether an instruction takes the M-cycles of a condition that holds; without a condition both are the same
abbrev pub is_taken : Instr → Flags → Bool
is_taken instr.Nop f = true
is_taken (instr.StoreSp w) f = true
is_taken instr.Stop f = true
is_taken (instr.JumpRelative b) f = true
is_taken (instr.JumpRelativeIf c b) f = condition_holds c f
is_taken (instr.LoadRegister16 r w) f = true
is_taken (instr.AddHl r) f = true
is_taken (instr.StoreAccumulator p) f = true
is_taken (instr.LoadAccumulator p) f = true
is_taken (instr.IncrementRegister16 r) f = true
is_taken (instr.DecrementRegister16 r) f = true
is_taken (instr.Increment r) f = true
is_taken (instr.Decrement r) f = true
is_taken (instr.LoadByte r b) f = true
is_taken (instr.Accumulator o) f = true
is_taken (instr.Load r s) f = true
is_taken instr.Halt f = true
is_taken (instr.Operate o r) f = true
is_taken (instr.OperateByte o b) f = true
is_taken (instr.ReturnIf c) f = condition_holds c f
is_taken (instr.StoreHigh b) f = true
is_taken (instr.AddSp b) f = true
is_taken (instr.LoadHigh b) f = true
is_taken (instr.LoadHlSp b) f = true
is_taken (instr.Pop r) f = true
is_taken instr.Return f = true
is_taken instr.ReturnFromInterrupt f = true
is_taken instr.JumpHl f = true
is_taken instr.LoadSpHl f = true
is_taken (instr.JumpIf c w) f = condition_holds c f
is_taken instr.StoreHighC f = true
is_taken (instr.StoreAt w) f = true
is_taken instr.LoadHighC f = true
is_taken (instr.LoadAt w) f = true
is_taken (instr.Jump w) f = true
is_taken instr.DisableInterrupts f = true
is_taken instr.EnableInterrupts f = true
is_taken (instr.CallIf c w) f = condition_holds c f
is_taken (instr.Push r) f = true
is_taken (instr.Call w) f = true
is_taken (instr.Restart a) f = true
is_taken (instr.Shift s r) f = true
is_taken (instr.TestBit n r) f = true
is_taken (instr.ResetBit n r) f = true
is_taken (instr.SetBit n r) f = true
is_taken (instr.Undefined o) f = true

-- A and the flags replaced
abbrev pub with_result : Outcome → Registers → Registers
with_result o r = record r { a = o.value; flags = o.flags }

-- an operation of A with the byte n; CP keeps A
abbrev pub operated : Operation → ℕ → Registers → Registers
operated operation.Add n r = with_result (sum_of r.a n 0) r
operated operation.AddCarry n r = with_result (sum_of r.a n (digit_of r.flags.carry)) r
operated operation.Subtract n r = with_result (difference_of r.a n 0) r
operated operation.SubtractCarry n r = with_result (difference_of r.a n (digit_of r.flags.carry)) r
operated operation.And n r = with_result (outcome_of (bit_and r.a n) true false) r
operated operation.Xor n r = with_result (outcome_of (bit_xor r.a n) false false) r
operated operation.Or n r = with_result (outcome_of (bit_or r.a n) false false) r
operated operation.Compare n r = record r { flags = (difference_of r.a n 0).flags }

-- an operation on A and the flags alone
abbrev pub accumulator_operated : AccumulatorOperation → Registers → Registers
accumulator_operated accumulator.RotateLeft r = with_result (with_zero_clear (rotated_left r.a)) r
accumulator_operated accumulator.RotateRight r = with_result (with_zero_clear (rotated_right r.a)) r
accumulator_operated accumulator.RotateLeftThrough r = with_result (with_zero_clear (rotated_left_through r.a r.flags.carry)) r
accumulator_operated accumulator.RotateRightThrough r = with_result (with_zero_clear (rotated_right_through r.a r.flags.carry)) r
accumulator_operated accumulator.DecimalAdjust r = with_result (decimal_of r.a r.flags) r
accumulator_operated accumulator.Complement r = with_result (complement_of r.a r.flags) r
accumulator_operated accumulator.SetCarry r = record r { flags = with_carry_set r.flags }
accumulator_operated accumulator.FlipCarry r = record r { flags = with_carry_flipped r.flags }

-- a rotation or a shift of n with the carry c
abbrev pub shifted : Shift → ℕ → Bool → Outcome
shifted shift.RotateLeft n c = rotated_left n
shifted shift.RotateRight n c = rotated_right n
shifted shift.RotateLeftThrough n c = rotated_left_through n c
shifted shift.RotateRightThrough n c = rotated_right_through n c
shifted shift.ShiftLeftArithmetic n c = shifted_left_arithmetic n
shifted shift.ShiftRightArithmetic n c = shifted_right_arithmetic n
shifted shift.Swap n c = swapped_nibbles n
shifted shift.ShiftRightLogical n c = shifted_right_logical n

-- (BC) (DE) (HL+) (HL-): the address, and the registers after the access
abbrev pub indirect_address : Indirect → Registers → ℕ
indirect_address indirect.Bc r = bc_of r
indirect_address indirect.De r = de_of r
indirect_address indirect.HlUp r = hl_of r
indirect_address indirect.HlDown r = hl_of r

abbrev pub after_access : Indirect → Registers → Registers
after_access indirect.Bc r = r
after_access indirect.De r = r
after_access indirect.HlUp r = with_hl (next_address (hl_of r)) r
after_access indirect.HlDown r = with_hl (previous_address (hl_of r)) r
