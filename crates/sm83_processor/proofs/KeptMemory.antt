-- Which instructions leave the memory as it is.
use Rattle.std.proofs.Common.{◌≡◌, ◌∙◌, ℕ, ◌<◌, Bool, true, false, refl, sym, ap}
use Rattle.std.specs.Prelude.{◌==◌, ◌||◌, if◌then◌else◌}
use Rattle.std.proofs.lemmas.Bool.{agree_below, agree_below_at}
use Rattle.opcode_table.specs.Table.{loads_and_steps, jumps_and_stack, bit_instruction, instruction_of}
use Rattle.opcode_table.specs.Timing.{is_in_memory, length_of}
use Rattle.opcode_table.specs.declared.instruction.Operand8.{Operand8}
use Rattle.opcode_table.specs.declared.instruction.Operand8.TheVariants as operand
use Rattle.opcode_table.specs.declared.instruction.Instr.{Instr}
use Rattle.opcode_table.specs.declared.instruction.Instr.TheVariants.{Nop, StoreSp, Stop, JumpRelative, JumpRelativeIf, LoadRegister16, AddHl, StoreAccumulator, LoadAccumulator, IncrementRegister16, DecrementRegister16, Increment, Decrement, LoadByte, Accumulator, Load, Halt, Operate, OperateByte, ReturnIf, StoreHigh, AddSp, LoadHigh, LoadHlSp, Pop, Return, ReturnFromInterrupt, JumpHl, LoadSpHl, JumpIf, StoreHighC, StoreAt, LoadHighC, LoadAt, Jump, DisableInterrupts, EnableInterrupts, CallIf, Push, Call, Restart, Shift, TestBit, ResetBit, SetBit, Undefined}
use Rattle.sm83_alu.specs.declared.register_file.Flags.{Flags}
use Rattle.sm83_processor.specs.Rules.{Rules}
use Rattle.sm83_processor.specs.RegisterOperations.{condition_holds}
use Rattle.sm83_processor.specs.Execution.{executed, with_operand, with_flags, jumped_relative, returned, at_pc}
use Rattle.sm83_processor.specs.Opcodes.{after_fetch, instruction_at, executed_after_fetch, past, low_at, high_at, cycles_with}
use Rattle.sm83_processor.specs.KeptMemory.{KeepsMemory}
use Rattle.sm83_processor.specs.declared.processor.Processor.{Processor}

-- ---- by instruction

-- HALT keeps the memory, but stands among the opcodes of LD (HL),r
abbrev may_write : Instr → Bool
may_write (StoreSp w) = true
may_write Stop = true
may_write (StoreAccumulator p) = true
may_write (Increment p) = is_in_memory p
may_write (Decrement p) = is_in_memory p
may_write (LoadByte p b) = is_in_memory p
may_write (Load p q) = is_in_memory p
may_write Halt = true
may_write (StoreHigh b) = true
may_write StoreHighC = true
may_write (StoreAt w) = true
may_write (CallIf c w) = true
may_write (Push p) = true
may_write (Call w) = true
may_write (Restart n) = true
may_write (Shift h p) = is_in_memory p
may_write (ResetBit n p) = is_in_memory p
may_write (SetBit n p) = is_in_memory p
may_write _ = false

absurd_write : {A : Type 0} → true ≡ false → A
absurd_write e = cc

operand_memory : {M : Type 0} (r : Rules M) (p : Operand8) (n : ℕ) (s : Processor M) → is_in_memory p ≡ false → (with_operand r p n s).memory ≡ s.memory
operand_memory r operand.B n s kept = refl
operand_memory r operand.C n s kept = refl
operand_memory r operand.D n s kept = refl
operand_memory r operand.E n s kept = refl
operand_memory r operand.H n s kept = refl
operand_memory r operand.L n s kept = refl
operand_memory r operand.AtHl n s kept = absurd_write kept
operand_memory r operand.A n s kept = refl

either_memory : {M : Type 0} (b : Bool) (t s : Processor M) → t.memory ≡ s.memory → (if b then t else s).memory ≡ s.memory
either_memory true t s e = e
either_memory false t s e = refl

memory_kept : {M : Type 0} (r : Rules M) (i : Instr) (s : Processor M) → may_write i ≡ false → (executed r i s).memory ≡ s.memory
memory_kept r Nop s kept = refl
memory_kept r (StoreSp w) s kept = absurd_write kept
memory_kept r Stop s kept = absurd_write kept
memory_kept r (JumpRelative b) s kept = refl
memory_kept r (JumpRelativeIf c b) s kept = either_memory (condition_holds c s.registers.flags) (jumped_relative b s) s refl
memory_kept r (LoadRegister16 p w) s kept = refl
memory_kept r (AddHl p) s kept = refl
memory_kept r (StoreAccumulator p) s kept = absurd_write kept
memory_kept r (LoadAccumulator p) s kept = refl
memory_kept r (IncrementRegister16 p) s kept = refl
memory_kept r (DecrementRegister16 p) s kept = refl
memory_kept r (Increment p) s kept = operand_memory r p _ (with_flags _ s) kept
memory_kept r (Decrement p) s kept = operand_memory r p _ (with_flags _ s) kept
memory_kept r (LoadByte p b) s kept = operand_memory r p _ s kept
memory_kept r (Accumulator o) s kept = refl
memory_kept r (Load p q) s kept = operand_memory r p _ s kept
memory_kept r Halt s kept = absurd_write kept
memory_kept r (Operate o p) s kept = refl
memory_kept r (OperateByte o b) s kept = refl
memory_kept r (ReturnIf c) s kept = either_memory (condition_holds c s.registers.flags) (returned r s) s refl
memory_kept r (StoreHigh b) s kept = absurd_write kept
memory_kept r (AddSp b) s kept = refl
memory_kept r (LoadHigh b) s kept = refl
memory_kept r (LoadHlSp b) s kept = refl
memory_kept r (Pop p) s kept = refl
memory_kept r Return s kept = refl
memory_kept r ReturnFromInterrupt s kept = refl
memory_kept r JumpHl s kept = refl
memory_kept r LoadSpHl s kept = refl
memory_kept r (JumpIf c w) s kept = either_memory (condition_holds c s.registers.flags) (at_pc w s) s refl
memory_kept r StoreHighC s kept = absurd_write kept
memory_kept r (StoreAt w) s kept = absurd_write kept
memory_kept r LoadHighC s kept = refl
memory_kept r (LoadAt w) s kept = refl
memory_kept r (Jump w) s kept = refl
memory_kept r DisableInterrupts s kept = refl
memory_kept r EnableInterrupts s kept = refl
memory_kept r (CallIf c w) s kept = absurd_write kept
memory_kept r (Push p) s kept = absurd_write kept
memory_kept r (Call w) s kept = absurd_write kept
memory_kept r (Restart n) s kept = absurd_write kept
memory_kept r (Shift h p) s kept = operand_memory r p _ (with_flags _ s) kept
memory_kept r (TestBit n p) s kept = refl
memory_kept r (ResetBit n p) s kept = operand_memory r p _ s kept
memory_kept r (SetBit n p) s kept = operand_memory r p _ s kept
memory_kept r (Undefined o) s kept = refl

kept_after : {M : Type 0} (r : Rules M) (i : Instr) (s : Processor M) → may_write i ≡ false → (executed_after_fetch r i s).memory ≡ s.memory
kept_after r i s kept = memory_kept r i (past (length_of i) s) kept

-- ---- by opcode, but for CB

abbrev pub may_write_at : ℕ → Bool
may_write_at o = o == 0x02 || o == 0x08 || o == 0x10 || o == 0x12 || o == 0x22 || o == 0x32 || o == 0x34 || o == 0x35 || o == 0x36
    || o == 0x70 || o == 0x71 || o == 0x72 || o == 0x73 || o == 0x74 || o == 0x75 || o == 0x76 || o == 0x77
    || o == 0xC4 || o == 0xC5 || o == 0xC7 || o == 0xCC || o == 0xCD || o == 0xCF || o == 0xD4 || o == 0xD5 || o == 0xD7 || o == 0xDC || o == 0xDF
    || o == 0xE0 || o == 0xE2 || o == 0xE5 || o == 0xE7 || o == 0xEA || o == 0xEF || o == 0xF5 || o == 0xF7 || o == 0xFF

all_opcodes : (b c : ℕ) → agree_below (λ o. if o == 0xCB then false else may_write (instruction_of o b c)) may_write_at 256 ≡ true
unfolding instruction_of loads_and_steps jumps_and_stack
all_opcodes b c = refl

pub keeps_memory : {M : Type 0} (r : Rules M) (o cycles : ℕ) → o < 256 → (o == 0xCB) ≡ false → may_write_at o ≡ false → KeepsMemory r o cycles
keeps_memory r o cycles below other none = λ b c s _.
    let table = agree_below_at (λ k. if k == 0xCB then false else may_write (instruction_of k b c)) may_write_at 256 o (all_opcodes b c) below in
    let here : (t : Bool) → t ≡ false → (if t then false else may_write (instruction_of o b c)) ≡ false → may_write (instruction_of o b c) ≡ false =
    λ t. elim t as (λ v. v ≡ false → (if v then false else may_write (instruction_of o b c)) ≡ false → may_write (instruction_of o b c) ≡ false) [
      | true ↦ λ e _. absurd_write e
      | false ↦ λ _ same. same
    ] in
    kept_after r (instruction_of o b c) s (here (o == 0xCB) other (table ∙ none))

-- ---- after CB

-- what is said of an instruction after CB
abbrev ShortKeeps : Flags → Instr → Type 0
ShortKeeps f i = cycles_with i f ≡ 2 → may_write i ≡ false

choice_keeps : (f : Flags) (t : Bool) (i j : Instr) → ShortKeeps f i → ShortKeeps f j → ShortKeeps f (if t then i else j)
choice_keeps f true i j p q = p
choice_keeps f false i j p q = q

-- SET, RES and the shifts
abbrev operand_cycles : Operand8 → ℕ
operand_cycles p = if is_in_memory p then 4 else 2

register_of_two : (p : Operand8) → operand_cycles p ≡ 2 → is_in_memory p ≡ false
register_of_two operand.B e = refl
register_of_two operand.C e = refl
register_of_two operand.D e = refl
register_of_two operand.E e = refl
register_of_two operand.H e = refl
register_of_two operand.L e = refl
register_of_two operand.AtHl e = cc
register_of_two operand.A e = refl

bit_instruction_keeps : (f : Flags) (x z y : ℕ) → ShortKeeps f (bit_instruction x z y)
unfolding bit_instruction
bit_instruction_keeps f x z y =
    choice_keeps f (x == 0) _ _ (register_of_two _) (choice_keeps f (x == 1) _ _ (λ _. refl) (choice_keeps f (x == 2) _ _ (register_of_two _) (register_of_two _)))

prefixed : (f : Flags) (b c : ℕ) → ShortKeeps f (instruction_of 0xCB b c)
unfolding instruction_of
prefixed f b c = bit_instruction_keeps f _ _ _

pub keeps_memory_prefixed : {M : Type 0} (r : Rules M) (o cycles : ℕ) → o ≡ 0xCB → cycles ≡ 2 → KeepsMemory r o cycles
keeps_memory_prefixed {M} r o cycles prefix two =
    let short : KeepsMemory r 0xCB cycles =
    λ b c s took. kept_after r (instruction_of 0xCB b c) s (prefixed s.registers.flags b c (sym took ∙ two)) in
    rw prefix short

-- the memory after an instruction of such an opcode
pub memory_after : {M : Type 0} (r : Rules M) (o cycles : ℕ) (p q : Processor M) → KeepsMemory r o cycles
    → q ≡ executed_after_fetch r (instruction_at r o (after_fetch p)) (after_fetch p) → cycles ≡ cycles_with (instruction_at r o (after_fetch p)) p.registers.flags
    → q.memory ≡ p.memory
memory_after {M} r o cycles p q keeps after took =
    ap (λ (s : Processor M). s.memory) after ∙ keeps (low_at r (after_fetch p)) (high_at r (after_fetch p)) (after_fetch p) took
