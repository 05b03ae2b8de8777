-- The opcodes that no instruction has (Pan Docs, 'CPU Instruction Set').
use Rattle.std.specs.Prelude.{ℕ, Bool, true, false, List, [], ◌∷◌}
use Rattle.opcode_table.specs.declared.instruction.Instr.{Instr}
use Rattle.opcode_table.specs.declared.instruction.Instr.TheVariants.{Nop, StoreSp, Stop, JumpRelative, JumpRelativeIf, LoadRegister16, AddHl, StoreAccumulator, LoadAccumulator, IncrementRegister16, DecrementRegister16, Increment, Decrement, LoadByte, Accumulator, Load, Halt, Operate, OperateByte, ReturnIf, StoreHigh, AddSp, LoadHigh, LoadHlSp, Pop, Return, ReturnFromInterrupt, JumpHl, LoadSpHl, JumpIf, StoreHighC, StoreAt, LoadHighC, LoadAt, Jump, DisableInterrupts, EnableInterrupts, CallIf, Push, Call, Restart, Shift, TestBit, ResetBit, SetBit, Undefined}

abbrev pub undefined_opcodes : List ℕ
undefined_opcodes = 0xD3 ∷ 0xDB ∷ 0xDD ∷ 0xE3 ∷ 0xE4 ∷ 0xEB ∷ 0xEC ∷ 0xED ∷ 0xF4 ∷ 0xFC ∷ 0xFD ∷ []

abbrev pub is_undefined : Instr → Bool
is_undefined Nop = false
is_undefined (StoreSp w) = false
is_undefined Stop = false
is_undefined (JumpRelative b) = false
is_undefined (JumpRelativeIf c b) = false
is_undefined (LoadRegister16 r w) = false
is_undefined (AddHl r) = false
is_undefined (StoreAccumulator p) = false
is_undefined (LoadAccumulator p) = false
is_undefined (IncrementRegister16 r) = false
is_undefined (DecrementRegister16 r) = false
is_undefined (Increment r) = false
is_undefined (Decrement r) = false
is_undefined (LoadByte r b) = false
is_undefined (Accumulator o) = false
is_undefined (Load r s) = false
is_undefined Halt = false
is_undefined (Operate o r) = false
is_undefined (OperateByte o b) = false
is_undefined (ReturnIf c) = false
is_undefined (StoreHigh b) = false
is_undefined (AddSp b) = false
is_undefined (LoadHigh b) = false
is_undefined (LoadHlSp b) = false
is_undefined (Pop r) = false
is_undefined Return = false
is_undefined ReturnFromInterrupt = false
is_undefined JumpHl = false
is_undefined LoadSpHl = false
is_undefined (JumpIf c w) = false
is_undefined StoreHighC = false
is_undefined (StoreAt w) = false
is_undefined LoadHighC = false
is_undefined (LoadAt w) = false
is_undefined (Jump w) = false
is_undefined DisableInterrupts = false
is_undefined EnableInterrupts = false
is_undefined (CallIf c w) = false
is_undefined (Push r) = false
is_undefined (Call w) = false
is_undefined (Restart a) = false
is_undefined (Shift s r) = false
is_undefined (TestBit n r) = false
is_undefined (ResetBit n r) = false
is_undefined (SetBit n r) = false
is_undefined (Undefined o) = true
