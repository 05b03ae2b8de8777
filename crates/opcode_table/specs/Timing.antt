-- Lengths in bytes and M-cycles of the instructions (Pan Docs, 'CPU Instruction Set').
use Rattle.std.specs.Prelude.{ℕ, Bool, true, false, ◌+◌, if◌then◌else◌}
use Rattle.opcode_table.specs.declared.instruction.Instr.{Instr}
use Rattle.opcode_table.specs.declared.instruction.Instr.TheVariants.{Nop, StoreSp, Stop, JumpRelative, JumpRelativeIf, LoadRegister16, AddHl, StoreAccumulator, LoadAccumulator, IncrementRegister16, DecrementRegister16, Increment, Decrement, LoadByte, Accumulator, Load, Halt, Operate, OperateByte, ReturnIf, StoreHigh, AddSp, LoadHigh, LoadHlSp, Pop, Return, ReturnFromInterrupt, JumpHl, LoadSpHl, JumpIf, StoreHighC, StoreAt, LoadHighC, LoadAt, Jump, DisableInterrupts, EnableInterrupts, CallIf, Push, Call, Restart, Shift, TestBit, ResetBit, SetBit, Undefined}
use Rattle.opcode_table.specs.declared.instruction.Operand8.{Operand8}
use Rattle.opcode_table.specs.declared.instruction.Operand8.TheVariants.{B, C, D, E, H, L, AtHl, A}
use Rattle.opcode_table.specs.declared.decoding.Decoded.{Decoded}
use Rattle.opcode_table.specs.Table.{instruction_of}

-- whether an operand is the byte at HL
abbrev pub is_in_memory : Operand8 → Bool
is_in_memory B = false
is_in_memory C = false
is_in_memory D = false
is_in_memory E = false
is_in_memory H = false
is_in_memory L = false
is_in_memory AtHl = true
is_in_memory A = false

-- the bytes after the opcode: one for n8 and e, two for n16, and the second byte of STOP and of CB
abbrev pub operand_bytes : Instr → ℕ
operand_bytes Nop = 0
operand_bytes (StoreSp w) = 2
operand_bytes Stop = 1
operand_bytes (JumpRelative b) = 1
operand_bytes (JumpRelativeIf c b) = 1
operand_bytes (LoadRegister16 r w) = 2
operand_bytes (AddHl r) = 0
operand_bytes (StoreAccumulator p) = 0
operand_bytes (LoadAccumulator p) = 0
operand_bytes (IncrementRegister16 r) = 0
operand_bytes (DecrementRegister16 r) = 0
operand_bytes (Increment r) = 0
operand_bytes (Decrement r) = 0
operand_bytes (LoadByte r b) = 1
operand_bytes (Accumulator o) = 0
operand_bytes (Load r s) = 0
operand_bytes Halt = 0
operand_bytes (Operate o r) = 0
operand_bytes (OperateByte o b) = 1
operand_bytes (ReturnIf c) = 0
operand_bytes (StoreHigh b) = 1
operand_bytes (AddSp b) = 1
operand_bytes (LoadHigh b) = 1
operand_bytes (LoadHlSp b) = 1
operand_bytes (Pop r) = 0
operand_bytes Return = 0
operand_bytes ReturnFromInterrupt = 0
operand_bytes JumpHl = 0
operand_bytes LoadSpHl = 0
operand_bytes (JumpIf c w) = 2
operand_bytes StoreHighC = 0
operand_bytes (StoreAt w) = 2
operand_bytes LoadHighC = 0
operand_bytes (LoadAt w) = 2
operand_bytes (Jump w) = 2
operand_bytes DisableInterrupts = 0
operand_bytes EnableInterrupts = 0
operand_bytes (CallIf c w) = 2
operand_bytes (Push r) = 0
operand_bytes (Call w) = 2
operand_bytes (Restart a) = 0
operand_bytes (Shift s r) = 1
operand_bytes (TestBit n r) = 1
operand_bytes (ResetBit n r) = 1
operand_bytes (SetBit n r) = 1
operand_bytes (Undefined o) = 0

abbrev pub length_of : Instr → ℕ
length_of i = 1 + operand_bytes i

-- the M-cycles of an instruction that has no condition, or whose condition does not hold
abbrev pub cycles_of : Instr → ℕ
cycles_of Nop = 1
cycles_of (StoreSp w) = 5
cycles_of Stop = 1
cycles_of (JumpRelative b) = 3
cycles_of (JumpRelativeIf c b) = 2
cycles_of (LoadRegister16 r w) = 3
cycles_of (AddHl r) = 2
cycles_of (StoreAccumulator p) = 2
cycles_of (LoadAccumulator p) = 2
cycles_of (IncrementRegister16 r) = 2
cycles_of (DecrementRegister16 r) = 2
cycles_of (Increment r) = if is_in_memory r then 3 else 1
cycles_of (Decrement r) = if is_in_memory r then 3 else 1
cycles_of (LoadByte r b) = if is_in_memory r then 3 else 2
cycles_of (Accumulator o) = 1
cycles_of (Load r s) = if is_in_memory r then 2 else if is_in_memory s then 2 else 1
cycles_of Halt = 1
cycles_of (Operate o r) = if is_in_memory r then 2 else 1
cycles_of (OperateByte o b) = 2
cycles_of (ReturnIf c) = 2
cycles_of (StoreHigh b) = 3
cycles_of (AddSp b) = 4
cycles_of (LoadHigh b) = 3
cycles_of (LoadHlSp b) = 3
cycles_of (Pop r) = 3
cycles_of Return = 4
cycles_of ReturnFromInterrupt = 4
cycles_of JumpHl = 1
cycles_of LoadSpHl = 2
cycles_of (JumpIf c w) = 3
cycles_of StoreHighC = 2
cycles_of (StoreAt w) = 4
cycles_of LoadHighC = 2
cycles_of (LoadAt w) = 4
cycles_of (Jump w) = 4
cycles_of DisableInterrupts = 1
cycles_of EnableInterrupts = 1
cycles_of (CallIf c w) = 3
cycles_of (Push r) = 4
cycles_of (Call w) = 6
cycles_of (Restart a) = 4
cycles_of (Shift s r) = if is_in_memory r then 4 else 2
cycles_of (TestBit n r) = if is_in_memory r then 3 else 2
cycles_of (ResetBit n r) = if is_in_memory r then 4 else 2
cycles_of (SetBit n r) = if is_in_memory r then 4 else 2
cycles_of (Undefined o) = 1

-- the M-cycles where the condition holds; they are the same for an instruction that has none
abbrev pub cycles_taken_of : Instr → ℕ
cycles_taken_of Nop = cycles_of Nop
cycles_taken_of (StoreSp w) = cycles_of (StoreSp w)
cycles_taken_of Stop = cycles_of Stop
cycles_taken_of (JumpRelative b) = cycles_of (JumpRelative b)
cycles_taken_of (JumpRelativeIf c b) = 3
cycles_taken_of (LoadRegister16 r w) = cycles_of (LoadRegister16 r w)
cycles_taken_of (AddHl r) = cycles_of (AddHl r)
cycles_taken_of (StoreAccumulator p) = cycles_of (StoreAccumulator p)
cycles_taken_of (LoadAccumulator p) = cycles_of (LoadAccumulator p)
cycles_taken_of (IncrementRegister16 r) = cycles_of (IncrementRegister16 r)
cycles_taken_of (DecrementRegister16 r) = cycles_of (DecrementRegister16 r)
cycles_taken_of (Increment r) = cycles_of (Increment r)
cycles_taken_of (Decrement r) = cycles_of (Decrement r)
cycles_taken_of (LoadByte r b) = cycles_of (LoadByte r b)
cycles_taken_of (Accumulator o) = cycles_of (Accumulator o)
cycles_taken_of (Load r s) = cycles_of (Load r s)
cycles_taken_of Halt = cycles_of Halt
cycles_taken_of (Operate o r) = cycles_of (Operate o r)
cycles_taken_of (OperateByte o b) = cycles_of (OperateByte o b)
cycles_taken_of (ReturnIf c) = 5
cycles_taken_of (StoreHigh b) = cycles_of (StoreHigh b)
cycles_taken_of (AddSp b) = cycles_of (AddSp b)
cycles_taken_of (LoadHigh b) = cycles_of (LoadHigh b)
cycles_taken_of (LoadHlSp b) = cycles_of (LoadHlSp b)
cycles_taken_of (Pop r) = cycles_of (Pop r)
cycles_taken_of Return = cycles_of Return
cycles_taken_of ReturnFromInterrupt = cycles_of ReturnFromInterrupt
cycles_taken_of JumpHl = cycles_of JumpHl
cycles_taken_of LoadSpHl = cycles_of LoadSpHl
cycles_taken_of (JumpIf c w) = 4
cycles_taken_of StoreHighC = cycles_of StoreHighC
cycles_taken_of (StoreAt w) = cycles_of (StoreAt w)
cycles_taken_of LoadHighC = cycles_of LoadHighC
cycles_taken_of (LoadAt w) = cycles_of (LoadAt w)
cycles_taken_of (Jump w) = cycles_of (Jump w)
cycles_taken_of DisableInterrupts = cycles_of DisableInterrupts
cycles_taken_of EnableInterrupts = cycles_of EnableInterrupts
cycles_taken_of (CallIf c w) = 6
cycles_taken_of (Push r) = cycles_of (Push r)
cycles_taken_of (Call w) = cycles_of (Call w)
cycles_taken_of (Restart a) = cycles_of (Restart a)
cycles_taken_of (Shift s r) = cycles_of (Shift s r)
cycles_taken_of (TestBit n r) = cycles_of (TestBit n r)
cycles_taken_of (ResetBit n r) = cycles_of (ResetBit n r)
cycles_taken_of (SetBit n r) = cycles_of (SetBit n r)
cycles_taken_of (Undefined o) = cycles_of (Undefined o)

-- everything known about an instruction
abbrev pub row_of : Instr → Decoded
row_of i = record { instr = i; length = length_of i; cycles = cycles_of i; cycles_taken = cycles_taken_of i }

-- everything known about the instruction that begins with three bytes
abbrev pub decoded_of : ℕ → ℕ → ℕ → Decoded
decoded_of o b c = let i = instruction_of o b c in
    record { instr = i; length = length_of i; cycles = cycles_of i; cycles_taken = cycles_taken_of i }
