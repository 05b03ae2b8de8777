-- An instruction by its opcode, for the calls that run one whose opcode has been read.
use Rattle.std.specs.Prelude.{◌≡◌, ℕ, ◌+◌, ◌-◌, ◌%◌, false, if◌then◌else◌}
use Rattle.sm83_processor.specs.Rules.{Rules}
use Rattle.sm83_processor.specs.RegisterOperations.{next_address, is_taken}
use Rattle.sm83_processor.specs.Execution.{executed, at_pc}
use Rattle.sm83_processor.specs.Steps.{byte_at, second_address}
use Rattle.sm83_processor.specs.declared.processor.Processor.{Processor}
use Rattle.sm83_alu.specs.declared.register_file.Flags.{Flags}
use Rattle.opcode_table.specs.declared.instruction.Instr.{Instr}
use Rattle.opcode_table.specs.Table.{instruction_of}
use Rattle.opcode_table.specs.Timing.{length_of, cycles_of, cycles_taken_of}

-- the opcode at PC has been fetched: PC is at the byte after it
abbrev pub after_fetch : {M : Type 0} → Processor M → Processor M
after_fetch s = at_pc (next_address s.registers.pc) s

-- the same where `halt_bug` may hold, which ends
abbrev pub after_any_fetch : {M : Type 0} → Processor M → Processor M
after_any_fetch s = record s { registers = record s.registers { pc = second_address s }; state = record s.state { halt_bug = false } }

-- the bytes at PC
abbrev pub low_at : {M : Type 0} → Rules M → Processor M → ℕ
low_at rules s = byte_at rules s.registers.pc s

abbrev pub high_at : {M : Type 0} → Rules M → Processor M → ℕ
high_at rules s = byte_at rules (next_address s.registers.pc) s

-- the instruction of an opcode that has been fetched
abbrev pub instruction_at : {M : Type 0} → Rules M → ℕ → Processor M → Instr
instruction_at rules opcode s = instruction_of opcode (low_at rules s) (high_at rules s)

-- PC goes after an instruction of n bytes, of which the first has been fetched
abbrev pub past : {M : Type 0} → ℕ → Processor M → Processor M
past n s = record s { registers = record s.registers { pc = (s.registers.pc + (n - 1)) % 65536 } }

-- what an instruction leaves whose opcode has been fetched
abbrev pub executed_after_fetch : {M : Type 0} → Rules M → Instr → Processor M → Processor M
executed_after_fetch rules i s = executed rules i (past (length_of i) s)

-- its M-cycles with these flags
abbrev pub cycles_with : Instr → Flags → ℕ
cycles_with i f = if is_taken i f then cycles_taken_of i else cycles_of i

-- what an instruction does to a processor, whose opcode has not been fetched yet
pub record Executes {M : Type 0} (rules : Rules M) (i : Instr) (old new : Processor M) (m_cycles : ℕ) : Type 0 where
  -- what it leaves
  pub after : new ≡ executed_after_fetch rules i (after_fetch old)
  -- the M-cycles that it takes
  pub cycles : m_cycles ≡ cycles_with i old.registers.flags
