-- The 16-bit registers as numbers, the first register of a pair high (Pan Docs, 'CPU Registers and Flags').
use Rattle.std.specs.Prelude.{ℕ, ◌+◌, ◌*◌, ◌/◌, ◌%◌}
use Rattle.sm83_alu.specs.declared.register_file.Registers.{Registers}
use Rattle.sm83_alu.specs.Flags.{flags_byte, flags_of}
use Rattle.opcode_table.specs.declared.instruction.Register16.{Register16}
use Rattle.opcode_table.specs.declared.instruction.Register16.TheVariants as register
use Rattle.opcode_table.specs.declared.instruction.StackRegister16.{StackRegister16}
use Rattle.opcode_table.specs.declared.instruction.StackRegister16.TheVariants as stack

abbrev pub bc_of : Registers → ℕ
bc_of r = 256 * r.b + r.c

abbrev pub de_of : Registers → ℕ
de_of r = 256 * r.d + r.e

abbrev pub hl_of : Registers → ℕ
hl_of r = 256 * r.h + r.l

abbrev pub with_hl : ℕ → Registers → Registers
with_hl n r = record r { h = n / 256; l = n % 256 }

abbrev pub register16_value : Register16 → Registers → ℕ
register16_value register.Bc r = bc_of r
register16_value register.De r = de_of r
register16_value register.Hl r = hl_of r
register16_value register.Sp r = r.sp

abbrev pub with_register16 : Register16 → ℕ → Registers → Registers
with_register16 register.Bc n r = record r { b = n / 256; c = n % 256 }
with_register16 register.De n r = record r { d = n / 256; e = n % 256 }
with_register16 register.Hl n r = with_hl n r
with_register16 register.Sp n r = record r { sp = n }

abbrev pub stack_register16_value : StackRegister16 → Registers → ℕ
stack_register16_value stack.Bc r = bc_of r
stack_register16_value stack.De r = de_of r
stack_register16_value stack.Hl r = hl_of r
stack_register16_value stack.Af r = 256 * r.a + flags_byte r.flags

-- POP AF takes the flags from the byte's bits 7 to 4 and drops its low four
abbrev pub with_stack_register16 : StackRegister16 → ℕ → Registers → Registers
with_stack_register16 stack.Bc n r = record r { b = n / 256; c = n % 256 }
with_stack_register16 stack.De n r = record r { d = n / 256; e = n % 256 }
with_stack_register16 stack.Hl n r = with_hl n r
with_stack_register16 stack.Af n r = record r { a = n / 256; flags = flags_of (n % 256) }
