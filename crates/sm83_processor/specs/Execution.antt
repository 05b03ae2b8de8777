-- What an instruction does, over any memory (Pan Docs, 'CPU Instruction Set'). PC is already after it.
use Rattle.std.specs.Prelude.{ℕ, true, false, ◌+◌, ◌*◌, ◌/◌, ◌%◌, ◌==◌, ◌||◌, if◌then◌else◌}
use Rattle.sm83_processor.specs.Rules.{Rules}
use Rattle.sm83_processor.specs.RegisterPairs.{hl_of, with_hl, register16_value, with_register16, stack_register16_value, with_stack_register16}
use Rattle.sm83_processor.specs.RegisterOperations.{next_address, previous_address, condition_holds, operated, accumulator_operated, shifted, indirect_address, after_access}
use Rattle.sm83_processor.specs.declared.processor.Processor.{Processor}
use Rattle.sm83_alu.specs.declared.register_file.Registers.{Registers}
use Rattle.sm83_alu.specs.declared.register_file.Flags.{Flags}
use Rattle.sm83_alu.specs.declared.register_file.Outcome.{Outcome}
use Rattle.sm83_alu.specs.Arithmetic.{increment_of, decrement_of, next_word, previous_word, word_sum_of, offset_sum_of, signed_word}
use Rattle.sm83_alu.specs.Bits.{tested_bit, without_bit, with_bit}
use Rattle.opcode_table.specs.declared.instruction.Operand8.{Operand8}
use Rattle.opcode_table.specs.declared.instruction.Operand8.TheVariants as operand
use Rattle.opcode_table.specs.declared.instruction.Instr.{Instr}
use Rattle.opcode_table.specs.declared.instruction.Instr.TheVariants as instr

-- the byte that an operand names
abbrev pub operand_value : {M : Type 0} → Rules M → Operand8 → Processor M → ℕ
operand_value rules operand.B s = s.registers.b
operand_value rules operand.C s = s.registers.c
operand_value rules operand.D s = s.registers.d
operand_value rules operand.E s = s.registers.e
operand_value rules operand.H s = s.registers.h
operand_value rules operand.L s = s.registers.l
operand_value rules operand.AtHl s = rules.value_at s.memory (hl_of s.registers)
operand_value rules operand.A s = s.registers.a

-- the processor with that byte replaced
abbrev pub with_operand : {M : Type 0} → Rules M → Operand8 → ℕ → Processor M → Processor M
with_operand rules operand.B n s = record s { registers = record s.registers { b = n } }
with_operand rules operand.C n s = record s { registers = record s.registers { c = n } }
with_operand rules operand.D n s = record s { registers = record s.registers { d = n } }
with_operand rules operand.E n s = record s { registers = record s.registers { e = n } }
with_operand rules operand.H n s = record s { registers = record s.registers { h = n } }
with_operand rules operand.L n s = record s { registers = record s.registers { l = n } }
with_operand rules operand.AtHl n s = record s { memory = rules.written s.memory (hl_of s.registers) n }
with_operand rules operand.A n s = record s { registers = record s.registers { a = n } }

-- the registers, or PC, or the flags, or a byte of memory replaced
abbrev pub with_registers : {M : Type 0} → Registers → Processor M → Processor M
with_registers r s = record s { registers = r }

abbrev pub at_pc : {M : Type 0} → ℕ → Processor M → Processor M
at_pc n s = record s { registers = record s.registers { pc = n } }

abbrev pub with_flags : {M : Type 0} → Flags → Processor M → Processor M
with_flags f s = record s { registers = record s.registers { flags = f } }

abbrev pub with_byte : {M : Type 0} → Rules M → ℕ → ℕ → Processor M → Processor M
with_byte rules address n s = record s { memory = rules.written s.memory address n }

-- an operand replaced by an outcome, with its flags
abbrev pub with_outcome : {M : Type 0} → Rules M → Operand8 → Outcome → Processor M → Processor M
with_outcome rules p o s = with_operand rules p o.value (with_flags o.flags s)

-- the page of LDH and of (C)
abbrev pub high_address : ℕ → ℕ
high_address n = 0xFF00 + n

-- PUSH: the high byte at SP - 1, then the low byte at SP - 2
abbrev pub pushed : {M : Type 0} → Rules M → ℕ → Processor M → Processor M
pushed rules n s =
    let first = previous_address s.registers.sp in
    let second = previous_address first in
    record s {
      registers = record s.registers { sp = second };
      memory = rules.written (rules.written s.memory first (n / 256)) second (n % 256);
    }

-- POP reads the low byte at SP, then the high byte at SP + 1
abbrev pub popped_word : {M : Type 0} → Rules M → Processor M → ℕ
popped_word rules s =
    rules.value_at s.memory s.registers.sp + 256 * rules.value_at s.memory (next_address s.registers.sp)

abbrev pub popped : {M : Type 0} → Processor M → Processor M
popped s = record s { registers = record s.registers { sp = next_address (next_address s.registers.sp) } }

-- JR adds the signed byte to PC
abbrev pub jumped_relative : {M : Type 0} → ℕ → Processor M → Processor M
jumped_relative b s = at_pc ((s.registers.pc + signed_word b) % 65536) s

-- CALL and RST push PC
abbrev pub called : {M : Type 0} → Rules M → ℕ → Processor M → Processor M
called rules w s = at_pc w (pushed rules s.registers.pc s)

-- RET
abbrev pub returned : {M : Type 0} → Rules M → Processor M → Processor M
returned rules s = at_pc (popped_word rules s) (popped s)

-- HALT; with IME clear and an interrupt pending it is not entered, and the next opcode is fetched without advancing PC.
-- Directly after EI it counts as IME set (fixed profile).
abbrev pub halting : {M : Type 0} → Rules M → Processor M → Processor M
halting rules s =
    if s.state.ime || s.state.ime_pending || rules.pending_interrupts s.memory == 0
    then record s { state = record s.state { halted = true } }
    else record s { state = record s.state { halt_bug = true } }

-- STOP acts as a write to DIV, whatever is pressed or pending (fixed profile)
abbrev pub stopping : {M : Type 0} → Rules M → Processor M → Processor M
stopping rules s = with_byte rules 0xFF04 0 (record s { state = record s.state { stopped = true } })

-- an opcode that no instruction has locks the processor (fixed profile)
abbrev pub locking : {M : Type 0} → Processor M → Processor M
locking s = record s { state = record s.state { locked = true } }

-- what an instruction leaves
abbrev pub executed : {M : Type 0} → Rules M → Instr → Processor M → Processor M
executed rules instr.Nop s = s
executed rules (instr.StoreSp w) s =
    with_byte rules (next_address w) (s.registers.sp / 256) (with_byte rules w (s.registers.sp % 256) s)
executed rules instr.Stop s = stopping rules s
executed rules (instr.JumpRelative b) s = jumped_relative b s
executed rules (instr.JumpRelativeIf c b) s = if condition_holds c s.registers.flags then jumped_relative b s else s
executed rules (instr.LoadRegister16 p w) s = with_registers (with_register16 p w s.registers) s
executed rules (instr.AddHl p) s =
    let o = word_sum_of (hl_of s.registers) (register16_value p s.registers) s.registers.flags in
    with_flags o.flags (with_registers (with_hl o.value s.registers) s)
executed rules (instr.StoreAccumulator p) s =
    with_registers (after_access p s.registers) (with_byte rules (indirect_address p s.registers) s.registers.a s)
executed rules (instr.LoadAccumulator p) s =
    with_registers (record (after_access p s.registers) { a = rules.value_at s.memory (indirect_address p s.registers) }) s
executed rules (instr.IncrementRegister16 p) s = with_registers (with_register16 p (next_word (register16_value p s.registers)) s.registers) s
executed rules (instr.DecrementRegister16 p) s = with_registers (with_register16 p (previous_word (register16_value p s.registers)) s.registers) s
executed rules (instr.Increment p) s = with_outcome rules p (increment_of (operand_value rules p s) s.registers.flags) s
executed rules (instr.Decrement p) s = with_outcome rules p (decrement_of (operand_value rules p s) s.registers.flags) s
executed rules (instr.LoadByte p b) s = with_operand rules p b s
executed rules (instr.Accumulator o) s = with_registers (accumulator_operated o s.registers) s
executed rules (instr.Load to from) s = with_operand rules to (operand_value rules from s) s
executed rules instr.Halt s = halting rules s
executed rules (instr.Operate o p) s = with_registers (operated o (operand_value rules p s) s.registers) s
executed rules (instr.OperateByte o b) s = with_registers (operated o b s.registers) s
executed rules (instr.ReturnIf c) s = if condition_holds c s.registers.flags then returned rules s else s
executed rules (instr.StoreHigh b) s = with_byte rules (high_address b) s.registers.a s
executed rules (instr.AddSp b) s =
    let o = offset_sum_of s.registers.sp b in
    with_registers (record s.registers { sp = o.value; flags = o.flags }) s
executed rules (instr.LoadHigh b) s =
    with_registers (record s.registers { a = rules.value_at s.memory (high_address b) }) s
executed rules (instr.LoadHlSp b) s =
    let o = offset_sum_of s.registers.sp b in
    with_flags o.flags (with_registers (with_hl o.value s.registers) s)
executed rules (instr.Pop p) s = with_registers (with_stack_register16 p (popped_word rules s) (popped s).registers) s
executed rules instr.Return s = returned rules s
executed rules instr.ReturnFromInterrupt s =
    let t = returned rules s in record t { state = record t.state { ime = true } }
executed rules instr.JumpHl s = at_pc (hl_of s.registers) s
executed rules instr.LoadSpHl s = with_registers (record s.registers { sp = hl_of s.registers }) s
executed rules (instr.JumpIf c w) s = if condition_holds c s.registers.flags then at_pc w s else s
executed rules instr.StoreHighC s = with_byte rules (high_address s.registers.c) s.registers.a s
executed rules (instr.StoreAt w) s = with_byte rules w s.registers.a s
executed rules instr.LoadHighC s =
    with_registers (record s.registers { a = rules.value_at s.memory (high_address s.registers.c) }) s
executed rules (instr.LoadAt w) s = with_registers (record s.registers { a = rules.value_at s.memory w }) s
executed rules (instr.Jump w) s = at_pc w s
executed rules instr.DisableInterrupts s = record s { state = record s.state { ime = false; ime_pending = false } }
executed rules instr.EnableInterrupts s = record s { state = record s.state { ime_pending = true } }
executed rules (instr.CallIf c w) s = if condition_holds c s.registers.flags then called rules w s else s
executed rules (instr.Push p) s = pushed rules (stack_register16_value p s.registers) s
executed rules (instr.Call w) s = called rules w s
executed rules (instr.Restart n) s = called rules n s
executed rules (instr.Shift h p) s =
    with_outcome rules p (shifted h (operand_value rules p s) s.registers.flags.carry) s
executed rules (instr.TestBit n p) s = with_flags (tested_bit (n % 8) (operand_value rules p s) s.registers.flags) s
executed rules (instr.ResetBit n p) s = with_operand rules p (without_bit (n % 8) (operand_value rules p s)) s
executed rules (instr.SetBit n p) s = with_operand rules p (with_bit (n % 8) (operand_value rules p s)) s
executed rules (instr.Undefined o) s = locking s
