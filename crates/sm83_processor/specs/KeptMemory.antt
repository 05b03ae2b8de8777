-- The instructions that leave the memory as it is.
use Rattle.std.specs.Prelude.{◌≡◌, ℕ}
use Rattle.sm83_processor.specs.Rules.{Rules}
use Rattle.sm83_processor.specs.Opcodes.{executed_after_fetch, cycles_with}
use Rattle.sm83_processor.specs.declared.processor.Processor.{Processor}
use Rattle.opcode_table.specs.Table.{instruction_of}

-- an instruction of this opcode that takes this many M-cycles leaves the memory as it is
abbrev pub KeepsMemory : {M : Type 0} → Rules M → ℕ → ℕ → Type 0
KeepsMemory {M} rules opcode cycles =
    (low high : ℕ) (s : Processor M) → cycles ≡ cycles_with (instruction_of opcode low high) s.registers.flags
    → (executed_after_fetch rules (instruction_of opcode low high) s).memory ≡ s.memory
