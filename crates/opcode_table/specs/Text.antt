-- The text of an instruction, in the form of the table.
use Rattle.std.specs.Prelude.{ℕ, List, [], ◌∷◌, ◌++◌, ◌+◌, ◌-◌, ◌%◌, nat_lt, if◌then◌else◌, codes}
use Rattle.exact_text.specs.Hex.{byte_text, word_text}
use Rattle.opcode_table.specs.declared.instruction.Instr.{Instr}
use Rattle.opcode_table.specs.declared.instruction.Instr.TheVariants as instr
use Rattle.opcode_table.specs.declared.instruction.Operand8.{Operand8}
use Rattle.opcode_table.specs.declared.instruction.Operand8.TheVariants as operand
use Rattle.opcode_table.specs.declared.instruction.Register16.{Register16}
use Rattle.opcode_table.specs.declared.instruction.Register16.TheVariants as register
use Rattle.opcode_table.specs.declared.instruction.StackRegister16.{StackRegister16}
use Rattle.opcode_table.specs.declared.instruction.StackRegister16.TheVariants as stack
use Rattle.opcode_table.specs.declared.instruction.Indirect.{Indirect}
use Rattle.opcode_table.specs.declared.instruction.Indirect.TheVariants as indirect
use Rattle.opcode_table.specs.declared.instruction.Condition.{Condition}
use Rattle.opcode_table.specs.declared.instruction.Condition.TheVariants as condition
use Rattle.opcode_table.specs.declared.instruction.Operation.{Operation}
use Rattle.opcode_table.specs.declared.instruction.Operation.TheVariants as operation
use Rattle.opcode_table.specs.declared.instruction.AccumulatorOperation.{AccumulatorOperation}
use Rattle.opcode_table.specs.declared.instruction.AccumulatorOperation.TheVariants as accumulator
use Rattle.opcode_table.specs.declared.instruction.Shift.{Shift}
use Rattle.opcode_table.specs.declared.instruction.Shift.TheVariants as shift

-- the sign and the size of a signed byte
unfoldable pub offset_text : ℕ → List ℕ
offset_text n = if nat_lt n 128 then codes "+" ++ byte_text n else codes "-" ++ byte_text (256 - n)

unfoldable pub operand8_text : Operand8 → List ℕ
operand8_text operand.B = codes "B"
operand8_text operand.C = codes "C"
operand8_text operand.D = codes "D"
operand8_text operand.E = codes "E"
operand8_text operand.H = codes "H"
operand8_text operand.L = codes "L"
operand8_text operand.AtHl = codes "(HL)"
operand8_text operand.A = codes "A"

unfoldable pub register16_text : Register16 → List ℕ
register16_text register.Bc = codes "BC"
register16_text register.De = codes "DE"
register16_text register.Hl = codes "HL"
register16_text register.Sp = codes "SP"

unfoldable pub stack_register16_text : StackRegister16 → List ℕ
stack_register16_text stack.Bc = codes "BC"
stack_register16_text stack.De = codes "DE"
stack_register16_text stack.Hl = codes "HL"
stack_register16_text stack.Af = codes "AF"

unfoldable pub indirect_text : Indirect → List ℕ
indirect_text indirect.Bc = codes "(BC)"
indirect_text indirect.De = codes "(DE)"
indirect_text indirect.HlUp = codes "(HL+)"
indirect_text indirect.HlDown = codes "(HL-)"

unfoldable pub condition_text : Condition → List ℕ
condition_text condition.NotZero = codes "NZ"
condition_text condition.Zero = codes "Z"
condition_text condition.NotCarry = codes "NC"
condition_text condition.Carry = codes "C"

unfoldable pub operation_text : Operation → List ℕ
operation_text operation.Add = codes "ADD A,"
operation_text operation.AddCarry = codes "ADC A,"
operation_text operation.Subtract = codes "SUB A,"
operation_text operation.SubtractCarry = codes "SBC A,"
operation_text operation.And = codes "AND A,"
operation_text operation.Xor = codes "XOR A,"
operation_text operation.Or = codes "OR A,"
operation_text operation.Compare = codes "CP A,"

unfoldable pub accumulator_text : AccumulatorOperation → List ℕ
accumulator_text accumulator.RotateLeft = codes "RLCA"
accumulator_text accumulator.RotateRight = codes "RRCA"
accumulator_text accumulator.RotateLeftThrough = codes "RLA"
accumulator_text accumulator.RotateRightThrough = codes "RRA"
accumulator_text accumulator.DecimalAdjust = codes "DAA"
accumulator_text accumulator.Complement = codes "CPL"
accumulator_text accumulator.SetCarry = codes "SCF"
accumulator_text accumulator.FlipCarry = codes "CCF"

unfoldable pub shift_text : Shift → List ℕ
shift_text shift.RotateLeft = codes "RLC "
shift_text shift.RotateRight = codes "RRC "
shift_text shift.RotateLeftThrough = codes "RL "
shift_text shift.RotateRightThrough = codes "RR "
shift_text shift.ShiftLeftArithmetic = codes "SLA "
shift_text shift.ShiftRightArithmetic = codes "SRA "
shift_text shift.Swap = codes "SWAP "
shift_text shift.ShiftRightLogical = codes "SRL "

-- the number of a bit
abbrev pub bit_text : ℕ → List ℕ
bit_text n = (48 + n % 8) ∷ []

abbrev pub text_of : Instr → List ℕ
text_of instr.Nop = codes "NOP"
text_of (instr.StoreSp w) = codes "LD (" ++ word_text w ++ codes "),SP"
text_of instr.Stop = codes "STOP"
text_of (instr.JumpRelative b) = codes "JR " ++ offset_text b
text_of (instr.JumpRelativeIf c b) = codes "JR " ++ condition_text c ++ codes "," ++ offset_text b
text_of (instr.LoadRegister16 p w) = codes "LD " ++ register16_text p ++ codes "," ++ word_text w
text_of (instr.AddHl p) = codes "ADD HL," ++ register16_text p
text_of (instr.StoreAccumulator p) = codes "LD " ++ indirect_text p ++ codes ",A"
text_of (instr.LoadAccumulator p) = codes "LD A," ++ indirect_text p
text_of (instr.IncrementRegister16 p) = codes "INC " ++ register16_text p
text_of (instr.DecrementRegister16 p) = codes "DEC " ++ register16_text p
text_of (instr.Increment r) = codes "INC " ++ operand8_text r
text_of (instr.Decrement r) = codes "DEC " ++ operand8_text r
text_of (instr.LoadByte r b) = codes "LD " ++ operand8_text r ++ codes "," ++ byte_text b
text_of (instr.Accumulator o) = accumulator_text o
text_of (instr.Load r s) = codes "LD " ++ operand8_text r ++ codes "," ++ operand8_text s
text_of instr.Halt = codes "HALT"
text_of (instr.Operate o r) = operation_text o ++ operand8_text r
text_of (instr.OperateByte o b) = operation_text o ++ byte_text b
text_of (instr.ReturnIf c) = codes "RET " ++ condition_text c
text_of (instr.StoreHigh b) = codes "LDH (" ++ byte_text b ++ codes "),A"
text_of (instr.AddSp b) = codes "ADD SP," ++ offset_text b
text_of (instr.LoadHigh b) = codes "LDH A,(" ++ byte_text b ++ codes ")"
text_of (instr.LoadHlSp b) = codes "LD HL,SP" ++ offset_text b
text_of (instr.Pop p) = codes "POP " ++ stack_register16_text p
text_of instr.Return = codes "RET"
text_of instr.ReturnFromInterrupt = codes "RETI"
text_of instr.JumpHl = codes "JP HL"
text_of instr.LoadSpHl = codes "LD SP,HL"
text_of (instr.JumpIf c w) = codes "JP " ++ condition_text c ++ codes "," ++ word_text w
text_of instr.StoreHighC = codes "LD (C),A"
text_of (instr.StoreAt w) = codes "LD (" ++ word_text w ++ codes "),A"
text_of instr.LoadHighC = codes "LD A,(C)"
text_of (instr.LoadAt w) = codes "LD A,(" ++ word_text w ++ codes ")"
text_of (instr.Jump w) = codes "JP " ++ word_text w
text_of instr.DisableInterrupts = codes "DI"
text_of instr.EnableInterrupts = codes "EI"
text_of (instr.CallIf c w) = codes "CALL " ++ condition_text c ++ codes "," ++ word_text w
text_of (instr.Push p) = codes "PUSH " ++ stack_register16_text p
text_of (instr.Call w) = codes "CALL " ++ word_text w
text_of (instr.Restart n) = codes "RST " ++ byte_text n
text_of (instr.Shift s r) = shift_text s ++ operand8_text r
text_of (instr.TestBit n r) = codes "BIT " ++ bit_text n ++ codes "," ++ operand8_text r
text_of (instr.ResetBit n r) = codes "RES " ++ bit_text n ++ codes "," ++ operand8_text r
text_of (instr.SetBit n r) = codes "SET " ++ bit_text n ++ codes "," ++ operand8_text r
text_of (instr.Undefined o) = codes "UNDEFINED " ++ byte_text o
