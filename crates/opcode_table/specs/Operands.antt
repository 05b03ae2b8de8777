-- The operands that the fields of an opcode name, in the order of their numbers.
use Rattle.std.specs.Prelude.{ℕ, [], ◌∷◌, slice_index_or}
use Rattle.opcode_table.specs.declared.instruction.Operand8.{Operand8}
use Rattle.opcode_table.specs.declared.instruction.Operand8.TheVariants as operand
use Rattle.opcode_table.specs.declared.instruction.Register16.{Register16}
use Rattle.opcode_table.specs.declared.instruction.Register16.TheVariants as register
use Rattle.opcode_table.specs.declared.instruction.StackRegister16.{StackRegister16}
use Rattle.opcode_table.specs.declared.instruction.StackRegister16.TheVariants as stack
use Rattle.opcode_table.specs.declared.instruction.Indirect.{Indirect}
use Rattle.opcode_table.specs.declared.instruction.Indirect.TheVariants as indirect
use Rattle.opcode_table.specs.declared.instruction.Condition.{Condition}
use Rattle.opcode_table.specs.declared.instruction.Condition.TheVariants as condition
use Rattle.opcode_table.specs.declared.instruction.Operation.{Operation}
use Rattle.opcode_table.specs.declared.instruction.Operation.TheVariants as operation
use Rattle.opcode_table.specs.declared.instruction.AccumulatorOperation.{AccumulatorOperation}
use Rattle.opcode_table.specs.declared.instruction.AccumulatorOperation.TheVariants as accumulator
use Rattle.opcode_table.specs.declared.instruction.Shift.{Shift}
use Rattle.opcode_table.specs.declared.instruction.Shift.TheVariants as shift

-- r: B C D E H L (HL) A
abbrev pub operand8_of : ℕ → Operand8
operand8_of n = slice_index_or (operand.B ∷ operand.C ∷ operand.D ∷ operand.E ∷ operand.H ∷ operand.L ∷ operand.AtHl ∷ operand.A ∷ []) n operand.A

-- rp: BC DE HL SP
abbrev pub register16_of : ℕ → Register16
register16_of n = slice_index_or (register.Bc ∷ register.De ∷ register.Hl ∷ register.Sp ∷ []) n register.Sp

-- rs: BC DE HL AF
abbrev pub stack_register16_of : ℕ → StackRegister16
stack_register16_of n = slice_index_or (stack.Bc ∷ stack.De ∷ stack.Hl ∷ stack.Af ∷ []) n stack.Af

-- (BC) (DE) (HL+) (HL-)
abbrev pub indirect_of : ℕ → Indirect
indirect_of n = slice_index_or (indirect.Bc ∷ indirect.De ∷ indirect.HlUp ∷ indirect.HlDown ∷ []) n indirect.HlDown

-- cc: NZ Z NC C
abbrev pub condition_of : ℕ → Condition
condition_of n = slice_index_or (condition.NotZero ∷ condition.Zero ∷ condition.NotCarry ∷ condition.Carry ∷ []) n condition.Carry

-- op: ADD ADC SUB SBC AND XOR OR CP
abbrev pub operation_of : ℕ → Operation
operation_of n = slice_index_or (operation.Add ∷ operation.AddCarry ∷ operation.Subtract ∷ operation.SubtractCarry ∷ operation.And ∷ operation.Xor ∷ operation.Or ∷ operation.Compare ∷ []) n operation.Compare

-- RLCA RRCA RLA RRA DAA CPL SCF CCF
abbrev pub accumulator_operation_of : ℕ → AccumulatorOperation
accumulator_operation_of n = slice_index_or (accumulator.RotateLeft ∷ accumulator.RotateRight ∷ accumulator.RotateLeftThrough ∷ accumulator.RotateRightThrough ∷ accumulator.DecimalAdjust ∷ accumulator.Complement ∷ accumulator.SetCarry ∷ accumulator.FlipCarry ∷ []) n accumulator.FlipCarry

-- RLC RRC RL RR SLA SRA SWAP SRL
abbrev pub shift_of : ℕ → Shift
shift_of n = slice_index_or (shift.RotateLeft ∷ shift.RotateRight ∷ shift.RotateLeftThrough ∷ shift.RotateRightThrough ∷ shift.ShiftLeftArithmetic ∷ shift.ShiftRightArithmetic ∷ shift.Swap ∷ shift.ShiftRightLogical ∷ []) n shift.ShiftRightLogical
