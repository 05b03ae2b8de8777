-- Still steps: instructions that change registers alone, and read at most one byte beside their own.
use Rattle.std.specs.Prelude.{◌≡◌, ℕ, ⊤, Option, Some, None}
use Rattle.sm83_processor.specs.Rules.{Rules}
use Rattle.sm83_processor.specs.RegisterPairs.{hl_of}
use Rattle.sm83_processor.specs.RegisterOperations.{next_address, indirect_address}
use Rattle.sm83_processor.specs.Execution.{high_address}
use Rattle.sm83_processor.specs.Steps.{step_of}
use Rattle.sm83_processor.specs.FastStep.{IsFast}
use Rattle.sm83_processor.specs.declared.processor.Processor.{Processor}
use Rattle.sm83_alu.specs.declared.register_file.Registers.{Registers}
use Rattle.opcode_table.specs.declared.instruction.Operand8.{Operand8}
use Rattle.opcode_table.specs.declared.instruction.Operand8.TheVariants as operand
use Rattle.opcode_table.specs.declared.instruction.Instr.{Instr}
use Rattle.opcode_table.specs.declared.instruction.Instr.TheVariants as instr

abbrev pub with_memory : {M : Type 0} → M → Processor M → Processor M
with_memory m s = record s { memory = m }

-- a memory has the bytes of the next instruction, and the byte at an address, that the processor's own has
pub record HasSameBytes {M : Type 0} (rules : Rules M) (p : Processor M) (address : ℕ) (m : M) : Type 0 where
  pub first : rules.value_at m p.registers.pc ≡ rules.value_at p.memory p.registers.pc
  pub second : rules.value_at m (next_address p.registers.pc) ≡ rules.value_at p.memory (next_address p.registers.pc)
  pub third : rules.value_at m (next_address (next_address p.registers.pc)) ≡ rules.value_at p.memory (next_address (next_address p.registers.pc))
  pub operand : rules.value_at m address ≡ rules.value_at p.memory address

-- If the next step is fast, it is the same over each memory that has the same bytes there, and leaves that memory after its M-cycles.
abbrev pub IsStillBy : {M : Type 0} → Rules M → ℕ → Processor M → Type 0
IsStillBy {M} rules address p =
    (m : M) → HasSameBytes rules p address m → IsFast rules p → IsFast rules (with_memory m p)
    → step_of rules (with_memory m p)
    ≡ record { after = with_memory (rules.passed m (step_of rules p).stepped.cycles) (step_of rules p).after; stepped = (step_of rules p).stepped }

-- where an address is told, the next step is still by it
abbrev pub IsStillIfTold : {M : Type 0} → Rules M → Option ℕ → Processor M → Type 0
IsStillIfTold rules None p = ⊤
IsStillIfTold rules (Some address) p = IsStillBy rules address p

-- ---- which instructions are

-- 0000 stands for no byte
abbrev pub read_of_operand : Operand8 → Registers → Option ℕ
read_of_operand operand.B r = Some 0
read_of_operand operand.C r = Some 0
read_of_operand operand.D r = Some 0
read_of_operand operand.E r = Some 0
read_of_operand operand.H r = Some 0
read_of_operand operand.L r = Some 0
read_of_operand operand.AtHl r = Some (hl_of r)
read_of_operand operand.A r = Some 0

abbrev pub read_of_register : Operand8 → Option ℕ
read_of_register operand.B = Some 0
read_of_register operand.C = Some 0
read_of_register operand.D = Some 0
read_of_register operand.E = Some 0
read_of_register operand.H = Some 0
read_of_register operand.L = Some 0
read_of_register operand.AtHl = None
read_of_register operand.A = Some 0

-- the address of the byte that an instruction reads, if it changes registers alone and reads no more
abbrev pub read_by : Instr → Registers → Option ℕ
read_by instr.Nop r = Some 0
read_by (instr.StoreSp w) r = None
read_by instr.Stop r = None
read_by (instr.JumpRelative b) r = Some 0
read_by (instr.JumpRelativeIf c b) r = Some 0
read_by (instr.LoadRegister16 p w) r = Some 0
read_by (instr.AddHl p) r = Some 0
read_by (instr.StoreAccumulator p) r = None
read_by (instr.LoadAccumulator p) r = Some (indirect_address p r)
read_by (instr.IncrementRegister16 p) r = Some 0
read_by (instr.DecrementRegister16 p) r = Some 0
read_by (instr.Increment p) r = read_of_register p
read_by (instr.Decrement p) r = read_of_register p
read_by (instr.LoadByte p b) r = read_of_register p
read_by (instr.Accumulator o) r = Some 0
read_by (instr.Load operand.AtHl from) r = None
read_by (instr.Load to from) r = read_of_operand from r
read_by instr.Halt r = None
read_by (instr.Operate o p) r = read_of_operand p r
read_by (instr.OperateByte o b) r = Some 0
read_by (instr.ReturnIf c) r = None
read_by (instr.StoreHigh b) r = None
read_by (instr.AddSp b) r = Some 0
read_by (instr.LoadHigh b) r = Some (high_address b)
read_by (instr.LoadHlSp b) r = Some 0
read_by (instr.Pop p) r = None
read_by instr.Return r = None
read_by instr.ReturnFromInterrupt r = None
read_by instr.JumpHl r = Some 0
read_by instr.LoadSpHl r = Some 0
read_by (instr.JumpIf c w) r = Some 0
read_by instr.StoreHighC r = None
read_by (instr.StoreAt w) r = None
read_by instr.LoadHighC r = Some (high_address r.c)
read_by (instr.LoadAt w) r = Some w
read_by (instr.Jump w) r = Some 0
read_by instr.DisableInterrupts r = None
read_by instr.EnableInterrupts r = None
read_by (instr.CallIf c w) r = None
read_by (instr.Push p) r = None
read_by (instr.Call w) r = None
read_by (instr.Restart n) r = None
read_by (instr.Shift h p) r = read_of_register p
read_by (instr.TestBit n p) r = read_of_operand p r
read_by (instr.ResetBit n p) r = read_of_register p
read_by (instr.SetBit n p) r = read_of_register p
read_by (instr.Undefined o) r = None
