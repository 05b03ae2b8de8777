-- The instruction of three bytes, by the fields x (bits 7 and 6), y (5 to 3) and z (2 to 0) of an opcode, with p = y / 2 and q = y mod 2.
use Rattle.std.specs.Prelude.{ℕ, ◌+◌, ◌-◌, ◌*◌, ◌/◌, ◌%◌, ◌==◌, nat_lt, if◌then◌else◌}
use Rattle.opcode_table.specs.declared.instruction.Instr.{Instr}
use Rattle.opcode_table.specs.declared.instruction.Instr.TheVariants as instr
use Rattle.opcode_table.specs.Operands.{operand8_of, register16_of, stack_register16_of, indirect_of, condition_of, operation_of, accumulator_operation_of, shift_of}

-- two bytes, the low one first
abbrev pub word_of : ℕ → ℕ → ℕ
word_of low high = low + 256 * high

-- x = 0, by z and y: b is the next byte and w the next two
unfoldable pub loads_and_steps : ℕ → ℕ → ℕ → ℕ → Instr
loads_and_steps z y b w =
    let p = y / 2 in
    let q = y % 2 in
    if z == 0 then
    (if y == 0 then instr.Nop
    else if y == 1 then instr.StoreSp w
    else if y == 2 then instr.Stop
    else if y == 3 then instr.JumpRelative b
    else instr.JumpRelativeIf (condition_of (y - 4)) b)
    else if z == 1 then (if q == 0 then instr.LoadRegister16 (register16_of p) w else instr.AddHl (register16_of p))
    else if z == 2 then (if q == 0 then instr.StoreAccumulator (indirect_of p) else instr.LoadAccumulator (indirect_of p))
    else if z == 3 then (if q == 0 then instr.IncrementRegister16 (register16_of p) else instr.DecrementRegister16 (register16_of p))
    else if z == 4 then instr.Increment (operand8_of y)
    else if z == 5 then instr.Decrement (operand8_of y)
    else if z == 6 then instr.LoadByte (operand8_of y) b
    else instr.Accumulator (accumulator_operation_of y)

-- x = 3 but for CB, by z and y: o is the opcode
unfoldable pub jumps_and_stack : ℕ → ℕ → ℕ → ℕ → ℕ → Instr
jumps_and_stack o z y b w =
    let p = y / 2 in
    let q = y % 2 in
    if z == 0 then
    (if nat_lt y 4 then instr.ReturnIf (condition_of y)
    else if y == 4 then instr.StoreHigh b
    else if y == 5 then instr.AddSp b
    else if y == 6 then instr.LoadHigh b
    else instr.LoadHlSp b)
    else if z == 1 then
    (if q == 0 then instr.Pop (stack_register16_of p)
    else if p == 0 then instr.Return
    else if p == 1 then instr.ReturnFromInterrupt
    else if p == 2 then instr.JumpHl
    else instr.LoadSpHl)
    else if z == 2 then
    (if nat_lt y 4 then instr.JumpIf (condition_of y) w
    else if y == 4 then instr.StoreHighC
    else if y == 5 then instr.StoreAt w
    else if y == 6 then instr.LoadHighC
    else instr.LoadAt w)
    else if z == 3 then
    (if y == 0 then instr.Jump w
    else if y == 6 then instr.DisableInterrupts
    else if y == 7 then instr.EnableInterrupts
    else instr.Undefined o)
    else if z == 4 then (if nat_lt y 4 then instr.CallIf (condition_of y) w else instr.Undefined o)
    else if z == 5 then
    (if q == 0 then instr.Push (stack_register16_of p)
    else if p == 0 then instr.Call w
    else instr.Undefined o)
    else if z == 6 then instr.OperateByte (operation_of y) b
    else instr.Restart (8 * y)

-- the byte after CB, by x, z and y
unfoldable pub bit_instruction : ℕ → ℕ → ℕ → Instr
bit_instruction x z y =
    if x == 0 then instr.Shift (shift_of y) (operand8_of z)
    else if x == 1 then instr.TestBit y (operand8_of z)
    else if x == 2 then instr.ResetBit y (operand8_of z)
    else instr.SetBit y (operand8_of z)

-- the instruction of three bytes: the opcode o and the two after it
unfoldable pub instruction_of : ℕ → ℕ → ℕ → Instr
instruction_of o b c =
    let x = o / 64 in
    let y = o / 8 % 8 in
    let z = o % 8 in
    let w = word_of b c in
    if o == 203 then bit_instruction (b / 64) (b % 8) (b / 8 % 8)
    else if o == 118 then instr.Halt
    else if x == 0 then loads_and_steps z y b w
    else if x == 1 then instr.Load (operand8_of y) (operand8_of z)
    else if x == 2 then instr.Operate (operation_of y) (operand8_of z)
    else jumps_and_stack o z y b w
