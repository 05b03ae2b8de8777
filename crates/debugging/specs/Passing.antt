-- What an instruction writes, and which opcodes access nothing: for the steps that a run makes without a look at all that they access.
use Rattle.std.specs.Prelude.{◌≡◌, ℕ, List, [], ◌∷◌, if◌then◌else◌}
use Rattle.opcode_table.specs.Table.{instruction_of}
use Rattle.opcode_table.specs.declared.instruction.Instr.{Instr}
use Rattle.opcode_table.specs.declared.instruction.Instr.TheVariants as instr
use Rattle.sm83_alu.specs.declared.register_file.Registers.{Registers}
use Rattle.sm83_processor.specs.Execution.{high_address}
use Rattle.sm83_processor.specs.RegisterOperations.{condition_holds, indirect_address, next_address, previous_address}
use Rattle.debugging.specs.declared.order.Span.{Span}
use Rattle.debugging.specs.Accesses.{instruction_reads, operand_reads}

-- the high byte at SP - 1, then the low byte at SP - 2
abbrev pub pushed_writes : Registers → List ℕ
pushed_writes r = previous_address r.sp ∷ previous_address (previous_address r.sp) ∷ []

-- the addresses that an instruction writes, with the registers of before; an operand that is read and written is at one address
abbrev pub instruction_writes : Instr → Registers → List ℕ
instruction_writes (instr.StoreSp w) r = w ∷ next_address w ∷ []
instruction_writes instr.Stop r = 0xFF04 ∷ []
instruction_writes (instr.StoreAccumulator p) r = indirect_address p r ∷ []
instruction_writes (instr.Increment p) r = operand_reads p r
instruction_writes (instr.Decrement p) r = operand_reads p r
instruction_writes (instr.LoadByte p b) r = operand_reads p r
instruction_writes (instr.Load to from) r = operand_reads to r
instruction_writes (instr.StoreHigh b) r = high_address b ∷ []
instruction_writes instr.StoreHighC r = high_address r.c ∷ []
instruction_writes (instr.StoreAt w) r = w ∷ []
instruction_writes (instr.CallIf c w) r = if condition_holds c r.flags then pushed_writes r else []
instruction_writes (instr.Push p) r = pushed_writes r
instruction_writes (instr.Call w) r = pushed_writes r
instruction_writes (instr.Restart n) r = pushed_writes r
instruction_writes (instr.Shift h p) r = operand_reads p r
instruction_writes (instr.ResetBit n p) r = operand_reads p r
instruction_writes (instr.SetBit n p) r = operand_reads p r
instruction_writes _ r = []

-- the register DMA, which begins a copy to OAM
abbrev pub only_dma : Span
only_dma = record { first = 0xFF46; last = 0xFF46 }

-- whatever follows this opcode, its instruction writes nothing
abbrev pub StoresNothing : ℕ → Type 0
StoresNothing opcode = (low high : ℕ) (r : Registers) → instruction_writes (instruction_of opcode low high) r ≡ []

-- nor does it read anything beside its own bytes
abbrev pub LoadsNothing : ℕ → Type 0
LoadsNothing opcode = (low high : ℕ) (r : Registers) → instruction_reads (instruction_of opcode low high) r ≡ []
