-- Which instructions leave a processor in its usual state.
use Rattle.std.proofs.Common.{◌≡◌, ◌∙◌, ℕ, ◌<◌, Bool, true, false, refl, sym, ap, eqb-true}
use Rattle.std.specs.Prelude.{◌==◌, ◌||◌, if◌then◌else◌}
use Rattle.std.proofs.lemmas.Bool.{agree_below, agree_below_at}
use Rattle.opcode_table.specs.Table.{loads_and_steps, jumps_and_stack, bit_instruction, instruction_of}
use Rattle.opcode_table.specs.declared.instruction.Operand8.{Operand8}
use Rattle.opcode_table.specs.declared.instruction.Operand8.TheVariants as operand
use Rattle.opcode_table.specs.declared.instruction.Instr.{Instr}
use Rattle.opcode_table.specs.declared.instruction.Instr.TheVariants.{Nop, StoreSp, Stop, JumpRelative, JumpRelativeIf, LoadRegister16, AddHl, StoreAccumulator, LoadAccumulator, IncrementRegister16, DecrementRegister16, Increment, Decrement, LoadByte, Accumulator, Load, Halt, Operate, OperateByte, ReturnIf, StoreHigh, AddSp, LoadHigh, LoadHlSp, Pop, Return, ReturnFromInterrupt, JumpHl, LoadSpHl, JumpIf, StoreHighC, StoreAt, LoadHighC, LoadAt, Jump, DisableInterrupts, EnableInterrupts, CallIf, Push, Call, Restart, Shift, TestBit, ResetBit, SetBit, Undefined}
use Rattle.sm83_processor.specs.Rules.{Rules}
use Rattle.sm83_processor.specs.RegisterOperations.{condition_holds}
use Rattle.sm83_processor.specs.Execution.{executed, with_operand, with_flags, jumped_relative, returned, called, at_pc}
use Rattle.sm83_processor.specs.Opcodes.{instruction_at, executed_after_fetch, low_at, high_at}
use Rattle.sm83_processor.specs.FastStep.{IsUsual}
use Rattle.sm83_processor.specs.declared.processor.Processor.{Processor}
use Rattle.sm83_processor.specs.declared.processor.ProcessorState.{ProcessorState}

-- ---- by instruction

abbrev changes_state : Instr → Bool
changes_state Stop = true
changes_state Halt = true
changes_state ReturnFromInterrupt = true
changes_state DisableInterrupts = true
changes_state EnableInterrupts = true
changes_state (Undefined o) = true
changes_state _ = false

-- whether it ends the usual state
abbrev leaves : Instr → Bool
leaves Stop = true
leaves Halt = true
leaves EnableInterrupts = true
leaves (Undefined o) = true
leaves _ = false

absurd_state : {A : Type 0} → true ≡ false → A
absurd_state e = cc

operand_state : {M : Type 0} (r : Rules M) (p : Operand8) (n : ℕ) (s : Processor M) → (with_operand r p n s).state ≡ s.state
operand_state r operand.B n s = refl
operand_state r operand.C n s = refl
operand_state r operand.D n s = refl
operand_state r operand.E n s = refl
operand_state r operand.H n s = refl
operand_state r operand.L n s = refl
operand_state r operand.AtHl n s = refl
operand_state r operand.A n s = refl

either_state : {M : Type 0} (b : Bool) (t s : Processor M) → t.state ≡ s.state → (if b then t else s).state ≡ s.state
either_state true t s e = e
either_state false t s e = refl

state_kept : {M : Type 0} (r : Rules M) (i : Instr) (s : Processor M) → changes_state i ≡ false → (executed r i s).state ≡ s.state
state_kept r Nop s kept = refl
state_kept r (StoreSp x) s kept = refl
state_kept r Stop s kept = absurd_state kept
state_kept r (JumpRelative x) s kept = refl
state_kept r (JumpRelativeIf c b) s kept = either_state (condition_holds c s.registers.flags) (jumped_relative b s) s refl
state_kept r (LoadRegister16 x y) s kept = refl
state_kept r (AddHl x) s kept = refl
state_kept r (StoreAccumulator x) s kept = refl
state_kept r (LoadAccumulator x) s kept = refl
state_kept r (IncrementRegister16 x) s kept = refl
state_kept r (DecrementRegister16 x) s kept = refl
state_kept r (Increment p) s kept = operand_state r p _ (with_flags _ s)
state_kept r (Decrement p) s kept = operand_state r p _ (with_flags _ s)
state_kept r (LoadByte p b) s kept = operand_state r p _ s
state_kept r (Accumulator x) s kept = refl
state_kept r (Load p q) s kept = operand_state r p _ s
state_kept r Halt s kept = absurd_state kept
state_kept r (Operate x y) s kept = refl
state_kept r (OperateByte x y) s kept = refl
state_kept r (ReturnIf c) s kept = either_state (condition_holds c s.registers.flags) (returned r s) s refl
state_kept r (StoreHigh x) s kept = refl
state_kept r (AddSp x) s kept = refl
state_kept r (LoadHigh x) s kept = refl
state_kept r (LoadHlSp x) s kept = refl
state_kept r (Pop x) s kept = refl
state_kept r Return s kept = refl
state_kept r ReturnFromInterrupt s kept = absurd_state kept
state_kept r JumpHl s kept = refl
state_kept r LoadSpHl s kept = refl
state_kept r (JumpIf c w) s kept = either_state (condition_holds c s.registers.flags) (at_pc w s) s refl
state_kept r StoreHighC s kept = refl
state_kept r (StoreAt x) s kept = refl
state_kept r LoadHighC s kept = refl
state_kept r (LoadAt x) s kept = refl
state_kept r (Jump x) s kept = refl
state_kept r DisableInterrupts s kept = absurd_state kept
state_kept r EnableInterrupts s kept = absurd_state kept
state_kept r (CallIf c w) s kept = either_state (condition_holds c s.registers.flags) (called r w s) s refl
state_kept r (Push x) s kept = refl
state_kept r (Call x) s kept = refl
state_kept r (Restart x) s kept = refl
state_kept r (Shift h p) s kept = operand_state r p _ (with_flags _ s)
state_kept r (TestBit x y) s kept = refl
state_kept r (ResetBit n p) s kept = operand_state r p _ s
state_kept r (SetBit n p) s kept = operand_state r p _ s
state_kept r (Undefined o) s kept = absurd_state kept

same_usual : (new old : ProcessorState) → new ≡ old → IsUsual old → IsUsual new
same_usual new old e usual = record {
  locked = ap (λ (s : ProcessorState). s.locked) e ∙ usual.locked;
  stopped = ap (λ (s : ProcessorState). s.stopped) e ∙ usual.stopped;
  halted = ap (λ (s : ProcessorState). s.halted) e ∙ usual.halted;
  ime_pending = ap (λ (s : ProcessorState). s.ime_pending) e ∙ usual.ime_pending;
  halt_bug = ap (λ (s : ProcessorState). s.halt_bug) e ∙ usual.halt_bug;
}

usual_in : {M : Type 0} (r : Rules M) (i : Instr) (s : Processor M) → leaves i ≡ false → IsUsual s.state → (b : Bool) → b ≡ changes_state i
    → IsUsual (executed r i s).state
usual_in r i s stays usual false e = same_usual _ _ (state_kept r i s (sym e)) usual
usual_in r Stop s stays usual true e = absurd_state stays
usual_in r Halt s stays usual true e = absurd_state stays
usual_in r ReturnFromInterrupt s stays usual true e = record { locked = usual.locked; stopped = usual.stopped; halted = usual.halted; ime_pending = usual.ime_pending; halt_bug = usual.halt_bug }
usual_in r DisableInterrupts s stays usual true e = record { locked = usual.locked; stopped = usual.stopped; halted = usual.halted; ime_pending = refl; halt_bug = usual.halt_bug }
usual_in r EnableInterrupts s stays usual true e = absurd_state stays
usual_in r (Undefined o) s stays usual true e = absurd_state stays
usual_in r _ s stays usual true e = absurd_state e

-- ---- by opcode

abbrev pub leaving : ℕ → Bool
leaving o = o == 0x10 || o == 0x76 || o == 0xD3 || o == 0xDB || o == 0xDD || o == 0xE3 || o == 0xE4 || o == 0xEB || o == 0xEC || o == 0xED || o == 0xF4 || o == 0xFB || o == 0xFC || o == 0xFD

choice_stays : (t : Bool) (i j : Instr) → leaves i ≡ false → leaves j ≡ false → leaves (if t then i else j) ≡ false
choice_stays true i j p q = p
choice_stays false i j p q = q

bit_instruction_stays : (x z y : ℕ) → leaves (bit_instruction x z y) ≡ false
unfolding bit_instruction
bit_instruction_stays x z y = choice_stays (x == 0) _ _ refl (choice_stays (x == 1) _ _ refl (choice_stays (x == 2) _ _ refl refl))

all_opcodes : (b c : ℕ) → agree_below (λ o. if o == 0xCB then false else leaves (instruction_of o b c)) leaving 256 ≡ true
unfolding instruction_of loads_and_steps jumps_and_stack
all_opcodes b c = refl

prefixed : (b c : ℕ) → leaves (instruction_of 0xCB b c) ≡ false
unfolding instruction_of
prefixed b c = bit_instruction_stays _ _ _

stays : (o b c : ℕ) → o < 256 → leaving o ≡ false → leaves (instruction_of o b c) ≡ false
stays o b c below none =
    let table = agree_below_at (λ k. if k == 0xCB then false else leaves (instruction_of k b c)) leaving 256 o (all_opcodes b c) below in
    let cases : (t : Bool) → t ≡ (o == 0xCB) → (if t then false else leaves (instruction_of o b c)) ≡ false → leaves (instruction_of o b c) ≡ false =
    λ t. elim t as (λ v. v ≡ (o == 0xCB) → (if v then false else leaves (instruction_of o b c)) ≡ false → leaves (instruction_of o b c) ≡ false) [
      | true ↦ λ is same. (let prefix : o ≡ 0xCB = eqb-true o 0xCB (sym is) in ap (λ k. leaves (instruction_of k b c)) prefix ∙ prefixed b c)
      | false ↦ λ is same. same
    ] in
    cases (o == 0xCB) refl (table ∙ none)

pub usual_after : {M : Type 0} (r : Rules M) (o : ℕ) (p q : Processor M) → o < 256 → leaving o ≡ false
    → q ≡ executed_after_fetch r (instruction_at r o p) p → IsUsual p.state → IsUsual q.state
usual_after {M} r o p q below none e usual =
    let i = instruction_at r o p in
    same_usual _ _ (ap (λ (s : Processor M). s.state) e) (usual_in r i _ (stays o (low_at r p) (high_at r p) below none) usual (changes_state i) refl)
