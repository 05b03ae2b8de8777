-- Loops that ask a byte, for private functions alone.
use Rattle.std.specs.Prelude.{◌≡◌, ℕ, ◌+◌, ◌%◌, Bool, Option, Some, None, true, false, not}
use Rattle.sm83_alu.specs.Arithmetic.{signed_word}
use Rattle.sm83_alu.specs.Bits.{tested_bit}
use Rattle.sm83_alu.specs.declared.register_file.Registers.{Registers}
use Rattle.opcode_table.specs.Table.{instruction_of}
use Rattle.opcode_table.specs.Timing.{length_of, cycles_of}
use Rattle.opcode_table.specs.declared.instruction.Operand8.{Operand8}
use Rattle.opcode_table.specs.declared.instruction.Operand8.TheVariants as operand
use Rattle.opcode_table.specs.declared.instruction.Operation.{Operation}
use Rattle.opcode_table.specs.declared.instruction.Operation.TheVariants as operation
use Rattle.opcode_table.specs.declared.instruction.Instr.{Instr}
use Rattle.opcode_table.specs.declared.instruction.Instr.TheVariants as instr
use Rattle.memory_map.specs.State.{BusState}
use Rattle.memory_map.specs.Bus.{read_at}
use Rattle.memory_map.specs.Lasting.{IsLasting}
use Rattle.sm83_processor.specs.Execution.{high_address}
use Rattle.sm83_processor.specs.RegisterOperations.{next_address, operated, condition_holds}
use Rattle.machine.specs.declared.polling_loop.Load.{Load}
use Rattle.machine.specs.declared.polling_loop.Load.TheVariants.{High, At}
use Rattle.machine.specs.declared.polling_loop.Source.{Source}
use Rattle.machine.specs.declared.polling_loop.Source.TheVariants as source
use Rattle.machine.specs.declared.polling_loop.Look.{Look}
use Rattle.machine.specs.declared.polling_loop.Look.TheVariants.{Byte, Register, Bit}
use Rattle.machine.specs.declared.polling_loop.Jump.{Jump}
use Rattle.machine.specs.declared.polling_loop.Rest.{Rest}
use Rattle.machine.specs.declared.polling_loop.Poll.{Poll}

-- ---- the instructions of a loop

abbrev pub load_of : Load → Instr
load_of (High b) = instr.LoadHigh b
load_of (At w) = instr.LoadAt w

-- the address that is asked
abbrev pub address_of : Load → ℕ
address_of (High b) = high_address b
address_of (At w) = w

abbrev pub operand_of : Source → Operand8
operand_of source.B = operand.B
operand_of source.C = operand.C
operand_of source.D = operand.D
operand_of source.E = operand.E
operand_of source.H = operand.H
operand_of source.L = operand.L
operand_of source.A = operand.A

abbrev pub look_of : Look → Instr
look_of (Byte o n) = instr.OperateByte o n
look_of (Register o s) = instr.Operate o (operand_of s)
look_of (Bit n) = instr.TestBit n operand.A

abbrev pub jump_of : Jump → Instr
jump_of j = instr.JumpRelativeIf j.condition j.offset

-- the address after an instruction
abbrev pub beyond : Instr → ℕ → ℕ
beyond i pc = (pc + length_of i) % 65536

-- it is at this address, and its bytes last
pub record IsInstruction (i : Instr) (b : BusState) (pc : ℕ) : Type 0 where
  pub is : instruction_of (read_at b pc) (read_at b (next_address pc)) (read_at b (next_address (next_address pc))) ≡ i
  pub first : IsLasting pc
  pub second : IsLasting (next_address pc)
  pub third : IsLasting (next_address (next_address pc))

-- a second operation or none, and the jump
abbrev pub HasRest : Option Look → Jump → BusState → ℕ → Type 0
HasRest None j b pc = IsInstruction (jump_of j) b pc
HasRest (Some l) j b pc = IsInstruction (look_of l) b pc × IsInstruction (jump_of j) b (beyond (look_of l) pc)

abbrev pub IsRest : Rest → BusState → ℕ → Type 0
IsRest r b pc = HasRest r.second r.jump b pc

pub record IsPoll (p : Poll) (b : BusState) (pc : ℕ) : Type 0 where
  pub load : IsInstruction (load_of p.load) b pc
  pub first : IsInstruction (look_of p.first) b (beyond (load_of p.load) pc)
  pub rest : IsRest p.rest b (beyond (look_of p.first) (beyond (load_of p.load) pc))

-- ---- the registers after a lap

abbrev pub loaded : Load → ℕ → Registers → Registers
loaded l v r = record r { pc = beyond (load_of l) r.pc; a = v }

abbrev pub source_value : Source → Registers → ℕ
source_value source.B r = r.b
source_value source.C r = r.c
source_value source.D r = r.d
source_value source.E r = r.e
source_value source.H r = r.h
source_value source.L r = r.l
source_value source.A r = r.a

-- PC is after the instruction already
abbrev pub looked_by : Look → Registers → Registers
looked_by (Byte o n) r = operated o n r
looked_by (Register o s) r = operated o (source_value s r) r
looked_by (Bit n) r = record r { flags = tested_bit (n % 8) r.a r.flags }

abbrev pub looked : Look → Registers → Registers
looked l r = looked_by l (record r { pc = beyond (look_of l) r.pc })

abbrev pub looked_again : Option Look → Registers → Registers
looked_again None r = r
looked_again (Some l) r = looked l r

-- the registers before the jump
abbrev pub asked : Poll → ℕ → Registers → Registers
asked p v r = looked_again p.rest.second (looked p.first (loaded p.load v r))

-- and after it, if it is taken
abbrev pub jumped : Jump → Registers → Registers
jumped j r = record r { pc = (beyond (jump_of j) r.pc + signed_word j.offset) % 65536 }

abbrev pub lap : Poll → ℕ → Registers → Registers
lap p v r = jumped p.rest.jump (asked p v r)

abbrev pub is_taken : Jump → Registers → Bool
is_taken j r = condition_holds j.condition r.flags

-- whether an operation depends on C
abbrev pub uses_carry : Operation → Bool
uses_carry operation.Add = false
uses_carry operation.AddCarry = true
uses_carry operation.Subtract = false
uses_carry operation.SubtractCarry = true
uses_carry operation.And = false
uses_carry operation.Xor = false
uses_carry operation.Or = false
uses_carry operation.Compare = false

-- what it leaves is sure not to depend on the flags before it
abbrev pub forgets : Look → Bool
forgets (Byte o n) = not (uses_carry o)
forgets (Register o s) = not (uses_carry o)
forgets (Bit n) = false

-- its M-cycles
abbrev pub cycles_of_look : Look → ℕ
cycles_of_look (Byte o n) = 2
cycles_of_look (Register o s) = 1
cycles_of_look (Bit n) = 2

abbrev pub cycles_again : Option Look → ℕ
cycles_again None = 0
cycles_again (Some l) = cycles_of_look l

abbrev pub cycles_of_lap : Poll → ℕ
cycles_of_lap p = cycles_of (load_of p.load) + (cycles_of_look p.first + (cycles_again p.rest.second + 3))
