-- Loops that count a register down, for private functions alone.
use Rattle.std.specs.Prelude.{ℕ, ◌+◌, ◌*◌, ◌/◌, ◌%◌, ◌==◌, Bool, true, false, bit_or}
use Rattle.sm83_alu.specs.declared.register_file.Registers.{Registers}
use Rattle.opcode_table.specs.declared.instruction.Condition.TheVariants.{NotZero}
use Rattle.opcode_table.specs.declared.instruction.Operand8.TheVariants as operand
use Rattle.opcode_table.specs.declared.instruction.Operation.TheVariants as operation
use Rattle.opcode_table.specs.declared.instruction.Register16.{Register16}
use Rattle.opcode_table.specs.declared.instruction.Register16.TheVariants as register
use Rattle.opcode_table.specs.declared.instruction.Instr.{Instr}
use Rattle.opcode_table.specs.declared.instruction.Instr.TheVariants as instr
use Rattle.memory_map.specs.State.{BusState}
use Rattle.machine.specs.declared.counting_loop.Pair.{Pair}
use Rattle.machine.specs.declared.counting_loop.Pair.TheVariants as pair
use Rattle.machine.specs.declared.counting_loop.WordCount.{WordCount}
use Rattle.machine.specs.declared.polling_loop.Source.{Source}
use Rattle.machine.specs.declared.polling_loop.Source.TheVariants as source
use Rattle.machine.specs.PollingLoop.{IsInstruction, operand_of, beyond}

abbrev pub decrement_by : Source → Instr
decrement_by s = instr.Decrement (operand_of s)

-- JR NZ, back by three bytes
abbrev pub back_by_three : Instr
back_by_three = instr.JumpRelativeIf NotZero 0xFD

-- DEC r and JR NZ back to it
pub record IsCount (s : Source) (b : BusState) (pc : ℕ) : Type 0 where
  pub decrement : IsInstruction (decrement_by s) b pc
  pub jump : IsInstruction back_by_three b (beyond (decrement_by s) pc)

abbrev pub with_source : Source → ℕ → Registers → Registers
with_source source.B n r = record r { b = n }
with_source source.C n r = record r { c = n }
with_source source.D n r = record r { d = n }
with_source source.E n r = record r { e = n }
with_source source.H n r = record r { h = n }
with_source source.L n r = record r { l = n }
with_source source.A n r = record r { a = n }

-- the register has been counted down to n, which is not 0
abbrev pub counted_to : Source → ℕ → Registers → Registers
counted_to s n r = with_source s n (record r { flags = record r.flags { zero = false; subtract = true; half_carry = (n + 1) % 16 == 0 } })

-- ---- a pair of registers

abbrev pub register_of : Pair → Register16
register_of pair.Bc = register.Bc
register_of pair.De = register.De
register_of pair.Hl = register.Hl

abbrev pub high_of : Pair → Source
high_of pair.Bc = source.B
high_of pair.De = source.D
high_of pair.Hl = source.H

abbrev pub low_of : Pair → Source
low_of pair.Bc = source.C
low_of pair.De = source.E
low_of pair.Hl = source.L

-- the register that is loaded, and the one that is joined to it
abbrev pub first_of : Bool → Pair → Source
first_of true p = high_of p
first_of false p = low_of p

abbrev pub second_of : Bool → Pair → Source
second_of true p = low_of p
second_of false p = high_of p

abbrev pub decrement_pair : Pair → Instr
decrement_pair p = instr.DecrementRegister16 (register_of p)

abbrev pub load_a : Source → Instr
load_a s = instr.Load operand.A (operand_of s)

abbrev pub or_a : Source → Instr
or_a s = instr.Operate operation.Or (operand_of s)

-- JR NZ, back by five bytes
abbrev pub back_by_five : Instr
back_by_five = instr.JumpRelativeIf NotZero 0xFB

-- DEC rr, LD A by one of its registers, OR by the other, and JR NZ back
pub record IsWordCount (w : WordCount) (b : BusState) (pc : ℕ) : Type 0 where
  pub decrement : IsInstruction (decrement_pair w.pair) b pc
  pub load : IsInstruction (load_a (first_of w.is_high_first w.pair)) b ((pc + 1) % 65536)
  pub join : IsInstruction (or_a (second_of w.is_high_first w.pair)) b (((pc + 1) % 65536 + 1) % 65536)
  pub jump : IsInstruction back_by_five b ((((pc + 1) % 65536 + 1) % 65536 + 1) % 65536)

abbrev pub word_value : Pair → Registers → ℕ
word_value pair.Bc r = 256 * r.b + r.c
word_value pair.De r = 256 * r.d + r.e
word_value pair.Hl r = 256 * r.h + r.l

abbrev pub with_word : Pair → ℕ → Registers → Registers
with_word pair.Bc n r = record r { b = n / 256; c = n % 256 }
with_word pair.De n r = record r { d = n / 256; e = n % 256 }
with_word pair.Hl n r = record r { h = n / 256; l = n % 256 }

abbrev pub joined : Bool → ℕ → ℕ
joined true n = bit_or (n / 256) (n % 256)
joined false n = bit_or (n % 256) (n / 256)

-- the pair has been counted down to n, which is not 0
abbrev pub word_counted_to : WordCount → ℕ → Registers → Registers
word_counted_to w n r = record (with_word w.pair n r) { a = joined w.is_high_first n; flags = record { zero = false; subtract = false; half_carry = false; carry = false } }
