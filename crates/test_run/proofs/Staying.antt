-- A processor that is locked, or in a loop, stays there.
use Rattle.std.proofs.Common.{◌≡◌, ◌∙◌, ◌⊎◌, ◌+◌, ◌/◌, ◌%◌, ◌<◌, ◌≤◌, ℕ, zero, suc, List, [], ◌++◌, ◌∷◌, Bool, true, false, Option, Some, None, refl, sym, ap, subst, inl, inr, arith}
use Rattle.std.specs.Prelude.{nat_lt, ◌==◌, ◌||◌, if◌then◌else◌, slice_index, replicate}
use Rattle.std.specs.Fn.{iterate}
use Rattle.std.proofs.lemmas.Bool.{and_parts}
use Rattle.std.proofs.lemmas.Bool.Decides.{nat_tests}
use Rattle.timer_unit.specs.Serial.{SerialAndRequest, tick as serial_tick}
use Rattle.memory_map.specs.declared.place.Place.{Place}
use Rattle.memory_map.specs.declared.place.Place.TheVariants.{Cartridge, Vram, Wram, Oam, Unused, Sound, Register, Hram, InterruptEnable}
use Rattle.memory_map.specs.Map.{place}
use Rattle.memory_map.specs.State.{BusState}
use Rattle.memory_map.specs.Bus.{is_closed, peeked, read_at, value_at, written, pending_interrupts, acknowledged}
use Rattle.memory_map.specs.BusRules.{bus_rules}
use Rattle.memory_map.specs.Ticks.{tick, tick_serial, tick_timer, copied_byte}
use Rattle.sm83_alu.specs.declared.register_file.Registers.{Registers}
use Rattle.sm83_processor.specs.Rules.{Rules}
use Rattle.sm83_processor.specs.Steps.{after_steps, step_of}
use Rattle.sm83_processor.specs.declared.processor.Processor.{Processor}
use Rattle.sm83_processor.specs.declared.processor.ProcessorState.{ProcessorState}
use Rattle.machine.specs.Sent.{sent_in, sent_in_step}
use Rattle.machine.proofs.Sent.{none_in_cycles}
use Rattle.machine.specs.Machine.{Input, Frame, Seconds, Power, State, MachineState, seconds_passed, powered, start}
use Rattle.machine.specs.Watched.{Seen, seen_in, begun_with, machine_after}
use Rattle.test_run.specs.declared.ends.End.{End}
use Rattle.test_run.specs.declared.ends.End.TheVariants.{Frames, Locked, Breakpoint, Loop}
use Rattle.test_run.specs.Ends.{end_of, end_seen, end_with, is_idle, is_in_place, is_still, jumps_at, jumps_by, jumps_to_itself, result_of}
use Rattle.script.specs.Inputs.{inputs_of_moves}
use Rattle.test_run.specs.Tested.{Tested, ended_at, played_then, sent_first, test_of, tested}
use Rattle.test_run.specs.Laws.{NothingMoreHappens, StaysThere}

-- ---- what no M-cycle changes

record IsLike (b c : BusState) : Type 0 where
  pub banks : c.banks ≡ b.banks
  pub wram : c.wram ≡ b.wram
  pub hram : c.hram ≡ b.hram
  pub left : c.serial.serial.cycles_left ≡ 0

like_if : (b : BusState) (test : Bool) (x y : BusState) → IsLike b x → IsLike b y → IsLike b (if test then x else y)
like_if b true x y first second = first
like_if b false x y first second = second

idle_tick : (s : SerialAndRequest) → s.serial.cycles_left ≡ 0 → (serial_tick s).serial.cycles_left ≡ 0
idle_tick s none = grind (arith, nat_tests)

like_tick : (b : BusState) → b.serial.serial.cycles_left ≡ 0 → IsLike b (tick b)
like_tick b none =
    let next = tick_serial (tick_timer b) in
    let idle = idle_tick b.serial none in
    let copied = like_if b (nat_lt next.control.dma_copied 160) (copied_byte next) next
    (record { banks = refl; wram = refl; hram = refl; left = idle }) (record { banks = refl; wram = refl; hram = refl; left = idle }) in
    record { banks = copied.banks; wram = copied.wram; hram = copied.hram; left = copied.left }

like_on : (b c d : BusState) → IsLike b c → IsLike c d → IsLike b d
like_on b c d first second =
    record { banks = second.banks ∙ first.banks; wram = second.wram ∙ first.wram; hram = second.hram ∙ first.hram; left = second.left }

like_ticks : (n : ℕ) (b : BusState) → b.serial.serial.cycles_left ≡ 0 → IsLike b (iterate tick n b)
like_ticks zero b none = record { banks = refl; wram = refl; hram = refl; left = none }
like_ticks (suc n) b none =
    let first = like_tick b none in
    like_on b (tick b) (iterate tick n (tick b)) first (like_ticks n (tick b) first.left)

-- ---- what is read there

abbrev pub is_kept : Place → Bool
is_kept (Cartridge a) = true
is_kept (Vram i) = false
is_kept (Wram i) = true
is_kept (Oam i) = false
is_kept Unused = false
is_kept (Sound i) = false
is_kept (Register a) = false
is_kept (Hram i) = true
is_kept InterruptEnable = false

same_value : (b c : BusState) → IsLike b c → (p : Place) → is_kept p ≡ true → value_at c p ≡ value_at b p
same_value b c like (Cartridge a) kept = rw like.banks refl
same_value b c like (Vram i) kept = absurd (cc)
same_value b c like (Wram i) kept = ap (λ (bytes : List ℕ). slice_index bytes i) like.wram
same_value b c like (Oam i) kept = absurd (cc)
same_value b c like Unused kept = absurd (cc)
same_value b c like (Sound i) kept = absurd (cc)
same_value b c like (Register a) kept = absurd (cc)
same_value b c like (Hram i) kept = ap (λ (bytes : List ℕ). slice_index bytes i) like.hram
same_value b c like InterruptEnable kept = absurd (cc)

open_there : (b : BusState) (p : Place) → is_kept p ≡ true → is_closed b p ≡ false
open_there b (Cartridge a) kept = refl
open_there b (Vram i) kept = absurd (cc)
open_there b (Wram i) kept = refl
open_there b (Oam i) kept = absurd (cc)
open_there b Unused kept = absurd (cc)
open_there b (Sound i) kept = absurd (cc)
open_there b (Register a) kept = absurd (cc)
open_there b (Hram i) kept = refl
open_there b InterruptEnable kept = absurd (cc)

same_peeked : (b c : BusState) (a : ℕ) → IsLike b c → is_kept (place a) ≡ true → peeked c a ≡ peeked b a
unfolding peeked
same_peeked b c a like kept = same_value b c like (place a) kept

pub read_is : (b : BusState) (a : ℕ) → is_kept (place a) ≡ true → read_at b a ≡ peeked b a
unfolding peeked read_at
read_is b a kept = rw (open_there b (place a) kept) refl

pub kept_there : (pc bytes offset a : ℕ) → is_in_place pc bytes ≡ true → offset < bytes → a ≡ (pc + offset) % 65536 → is_kept (place a) ≡ true
kept_there pc bytes offset a there less is = grind (arith, nat_tests)

pub in_reach : (pc bytes : ℕ) → is_in_place pc bytes ≡ true → pc + bytes ≤ 65535
in_reach pc bytes there = grind (arith, nat_tests)

-- ---- a step

-- the memory's rules, but what passes
abbrev pub rules_with : (BusState → ℕ → BusState) → Rules BusState
rules_with passed = record {
  value_at = read_at;
  written = λ b address value. written address value b;
  pending_interrupts = pending_interrupts;
  acknowledged = λ b bit. acknowledged bit b;
  passed = passed;
}

abbrev pub quiet : ProcessorState
quiet = record { ime = false; ime_pending = false; halted = false; stopped = false; locked = false; halt_bug = false }

still_is : (s : ProcessorState) → is_still s ≡ true → s ≡ quiet
still_is s still = grind arith

abbrev pub at : Registers → BusState → Processor BusState
at r b = record { registers = r; state = quiet; memory = b }

is_equal : (a b : ℕ) → (a == b) ≡ true → a ≡ b
is_equal a b same = grind (arith, nat_tests)

-- ---- a loop

-- what a processor at PC finds there again and again
pub data Loops (b : BusState) (pc : ℕ) : Type 0 where
  by : is_in_place pc 2 ≡ true → peeked b pc ≡ 0x18 → peeked b ((pc + 1) % 65536) ≡ 0xFE → Loops b pc
  to : is_in_place pc 3 ≡ true → peeked b pc ≡ 0xC3 → peeked b ((pc + 1) % 65536) ≡ pc % 256 → peeked b ((pc + 2) % 65536) ≡ pc / 256 → Loops b pc

loops_by : (b : BusState) (pc : ℕ) → jumps_by b pc ≡ true → Loops b pc
loops_by b pc jumps =
    let one = and_parts _ _ jumps in
    let two = and_parts _ _ one.0 in
    by two.0 (is_equal _ _ two.1) (is_equal _ _ one.1)

loops_to : (b : BusState) (pc : ℕ) → jumps_at b pc ≡ true → Loops b pc
loops_to b pc jumps =
    let one = and_parts _ _ jumps in
    let two = and_parts _ _ one.0 in
    let three = and_parts _ _ two.0 in
    to three.0 (is_equal _ _ three.1) (is_equal _ _ two.1) (is_equal _ _ one.1)

either_true : (x y : Bool) → (x || y) ≡ true → (x ≡ true) ⊎ (y ≡ true)
either_true true y e = inl refl
either_true false y e = inr e

loops : (b : BusState) (pc : ℕ) → (jumps_by b pc || jumps_at b pc) ≡ true → Loops b pc
loops b pc jumps = elim (either_true (jumps_by b pc) (jumps_at b pc) jumps) [
  | inl first ↦ loops_by b pc first
  | inr second ↦ loops_to b pc second
]

loops_on : (b c : BusState) (pc : ℕ) → IsLike b c → Loops b pc → Loops c pc
loops_on b c pc like (by there first second) =
    let fits = in_reach pc 2 there in
    by there (same_peeked b c pc like (kept_there pc 2 0 pc there (omega arith) (omega (arith, fits))) ∙ first)
    (same_peeked b c ((pc + 1) % 65536) like (kept_there pc 2 1 ((pc + 1) % 65536) there (omega arith) refl) ∙ second)
loops_on b c pc like (to there first second third) =
    let fits = in_reach pc 3 there in
    to there (same_peeked b c pc like (kept_there pc 3 0 pc there (omega arith) (omega (arith, fits))) ∙ first)
    (same_peeked b c ((pc + 1) % 65536) like (kept_there pc 3 1 ((pc + 1) % 65536) there (omega arith) refl) ∙ second)
    (same_peeked b c ((pc + 2) % 65536) like (kept_there pc 3 2 ((pc + 2) % 65536) there (omega arith) refl) ∙ third)

-- a step of a loop leads to the same place
abbrev pub LoopSteps : Type 0
LoopSteps = (passed : BusState → ℕ → BusState) (r : Registers) (b : BusState) → Loops b r.pc
    → (cycles : ℕ) × ((step_of (rules_with passed) (at r b)).after ≡ at r (passed b cycles))

-- ---- a processor that is locked

locked_step : (passed : BusState → ℕ → BusState) (p : Processor BusState) → p.state.locked ≡ true
    → (step_of (rules_with passed) p).after ≡ record p { memory = passed p.memory 1 }
unfolding step_of
locked_step passed p locked = rw locked refl

-- ---- what a step leads to again

-- what holds of a processor with these registers holds after each step, and a step sends nothing
module _ (r : Registers) (Stays : Processor BusState → Type 0) (same : (p : Processor BusState) → Stays p → p.registers ≡ r)
    (next : (p : Processor BusState) → Stays p → Stays (step_of bus_rules p).after) (none : (p : Processor BusState) → Stays p → sent_in_step p ≡ []) where
  registers_stay : (n : ℕ) (p : Processor BusState) → Stays p → (after_steps bus_rules n p).registers ≡ r
  unfolding after_steps
  registers_stay zero p stays = same p stays
  registers_stay (suc n) p stays = registers_stay n (step_of bus_rules p).after (next p stays)

  silent_there : (n : ℕ) (p : Processor BusState) → Stays p → sent_in n p ≡ []
  unfolding sent_in
  silent_there zero p stays = refl
  silent_there (suc n) p stays =
      ap (λ (bytes : List ℕ). bytes ++ sent_in n (step_of bus_rules p).after) (none p stays) ∙ silent_there n (step_of bus_rules p).after (next p stays)

-- where the accesses of a step leave the memory as it is, and no byte is being sent, it sends none
sends_none : (p : Processor BusState) → (step_of (rules_with (λ memory cycles. memory)) p).after.memory ≡ p.memory → p.memory.serial.serial.cycles_left ≡ 0 → sent_in_step p ≡ []
sends_none p kept none = none_in_cycles _ _ (inl (ap (λ (b : BusState). b.serial.serial.cycles_left) kept ∙ none))

record IsLocked (r : Registers) (p : Processor BusState) : Type 0 where
  pub registers : p.registers ≡ r
  pub locked : p.state.locked ≡ true
  pub left : p.memory.serial.serial.cycles_left ≡ 0

locked_next : (r : Registers) (p : Processor BusState) → IsLocked r p → IsLocked r (step_of bus_rules p).after
locked_next r p is =
    subst (IsLocked r) (sym (locked_step (λ b cycles. iterate tick cycles b) p is.locked))
    (record { registers = is.registers; locked = is.locked; left = (like_ticks 1 p.memory is.left).left })

locked_sends_none : (r : Registers) (p : Processor BusState) → IsLocked r p → sent_in_step p ≡ []
locked_sends_none r p is = sends_none p (ap (λ (q : Processor BusState). q.memory) (locked_step (λ memory cycles. memory) p is.locked)) is.left

record IsLooping (r : Registers) (p : Processor BusState) : Type 0 where
  pub memory : BusState
  pub is : p ≡ at r memory
  pub loops : Loops memory r.pc
  pub left : memory.serial.serial.cycles_left ≡ 0

looping_next : LoopSteps → (r : Registers) (p : Processor BusState) → IsLooping r p → IsLooping r (step_of bus_rules p).after
looping_next loop_step r p is =
    let step = loop_step (λ b cycles. iterate tick cycles b) r is.memory is.loops in
    let like = like_ticks step.0 is.memory is.left in
    record {
      memory = iterate tick step.0 is.memory;
      is = ap (λ (q : Processor BusState). (step_of bus_rules q).after) is.is ∙ step.1;
      loops = loops_on is.memory (iterate tick step.0 is.memory) r.pc like is.loops;
      left = like.left;
    }

looping_sends_none : LoopSteps → (r : Registers) (p : Processor BusState) → IsLooping r p → sent_in_step p ≡ []
looping_sends_none loop_step r p is =
    subst (λ (q : Processor BusState). sent_in_step q ≡ []) (sym is.is)
    (sends_none (at r is.memory) (ap (λ (q : Processor BusState). q.memory) (loop_step (λ memory cycles. memory) r is.memory is.loops).1) is.left)

-- ---- where a test ends

chosen : (test : Bool) (o : Option End) (why : End) → (if test then o else None) ≡ Some why → (test ≡ true) × (o ≡ Some why)
chosen true o why is = (refl, is)
chosen false o why is = absurd (cc)

locked_if : (locked jumps : Bool) → (if locked then Some Locked else (if jumps then Some Loop else None)) ≡ Some Locked → locked ≡ true
locked_if true jumps is = refl
locked_if false true is = absurd (cc)
locked_if false false is = absurd (cc)

loop_if : (locked jumps : Bool) → (if locked then Some Locked else (if jumps then Some Loop else None)) ≡ Some Loop → jumps ≡ true
loop_if true jumps is = absurd (cc)
loop_if false true is = refl
loop_if false false is = absurd (cc)

locked_by : (result : Option ℕ) (p : Processor BusState) → end_with result p ≡ Some Locked → p.state.locked ≡ true
locked_by (Some status) p is = absurd (cc)
locked_by None p is = locked_if p.state.locked (jumps_to_itself p) is

loop_by : (result : Option ℕ) (p : Processor BusState) → end_with result p ≡ Some Loop → jumps_to_itself p ≡ true
loop_by (Some status) p is = absurd (cc)
loop_by None p is = loop_if p.state.locked (jumps_to_itself p) is

locked_stays : (p : Processor BusState) → end_of p ≡ Some Locked → StaysThere p
locked_stays p is =
    let here = chosen (is_idle p) (end_with (result_of p.memory) p) Locked is in
    let locked : IsLocked p.registers p = record { registers = refl; locked = locked_by (result_of p.memory) p here.1; left = is_equal _ _ here.0 } in
    record {
      registers = λ steps. registers_stay p.registers (IsLocked p.registers) (λ q at. at.registers) (locked_next p.registers) (locked_sends_none p.registers) steps p locked;
      silent = λ steps. silent_there p.registers (IsLocked p.registers) (λ q at. at.registers) (locked_next p.registers) (locked_sends_none p.registers) steps p locked;
    }

loop_stays : LoopSteps → (p : Processor BusState) → end_of p ≡ Some Loop → StaysThere p
loop_stays loop_step p is =
    let here = chosen (is_idle p) (end_with (result_of p.memory) p) Loop is in
    let parts = and_parts _ _ (loop_by (result_of p.memory) p here.1) in
    let looping : IsLooping p.registers p = record {
      memory = p.memory;
      is = ap (λ (s : ProcessorState). record { registers = p.registers; state = s; memory = p.memory }) (still_is p.state parts.0);
      loops = loops p.memory p.registers.pc parts.1;
      left = is_equal _ _ here.0;
    } in
    let same = λ (q : Processor BusState) (there : IsLooping p.registers q). ap (λ (t : Processor BusState). t.registers) there.is in
    record {
      registers = λ steps. registers_stay p.registers (IsLooping p.registers) same (looping_next loop_step p.registers) (looping_sends_none loop_step p.registers) steps p looping;
      silent = λ steps. silent_there p.registers (IsLooping p.registers) same (looping_next loop_step p.registers) (looping_sends_none loop_step p.registers) steps p looping;
    }

-- where a test ends behind a frame, its processor is one of that end
module _ (e : End) (no_limit : e ≡ Frames → ⊥) (no_break : e ≡ Breakpoint → ⊥) where
  seen_end : (breaks : Bool) (o : Option End) → (if breaks then Some Breakpoint else o) ≡ Some e → o ≡ Some e
  seen_end true o is = absurd (no_break (cc))
  seen_end false o is = is

  after_frame : (o : Option End) (seen : Seen) (done : ℕ) (rest : Tested) → end_seen seen ≡ o → (rest.why ≡ e → end_of rest.processor ≡ Some e)
      → (played_then o seen.end.processor done rest).why ≡ e → end_of (played_then o seen.end.processor done rest).processor ≡ Some e
  after_frame None seen done rest is goes why = goes why
  after_frame (Some reason) seen done rest is goes why = seen_end seen.breaks (end_of seen.end.processor) (is ∙ ap (λ (w : End). Some w) why)

  in_frame : (last : Bool) (seen : Seen) (done : ℕ) (p : Processor BusState) (rest : Tested) → (rest.why ≡ e → end_of rest.processor ≡ Some e)
      → (if last then ended_at p done Frames else sent_first seen.sent (played_then (end_seen seen) seen.end.processor done rest)).why ≡ e
      → end_of (if last then ended_at p done Frames else sent_first seen.sent (played_then (end_seen seen) seen.end.processor done rest)).processor ≡ Some e
  in_frame true seen done p rest goes why = absurd (no_limit (sym why))
  in_frame false seen done p rest goes why = after_frame (end_seen seen) seen done rest refl goes why

  ends_so : (limit done : ℕ) (inputs : List Input) (m : MachineState) → (tested limit done inputs m).why ≡ e → end_of (tested limit done inputs m).processor ≡ Some e
  unfolding tested
  ends_so limit done [] m why = absurd (no_limit (sym why))
  ends_so limit done (Seconds n ∷ inputs) m why = ends_so limit done inputs (seconds_passed n m) why
  ends_so limit done (Power ∷ inputs) m why = ends_so limit done inputs (powered m) why
  ends_so limit done (State machine ∷ inputs) m why = ends_so limit done inputs machine why
  ends_so limit done (Frame buttons ∷ inputs) m why =
      let seen = seen_in (begun_with buttons m) in
      in_frame (done == limit) seen done m.processor (tested limit (done + 1) inputs (machine_after seen.end)) (ends_so limit (done + 1) inputs (machine_after seen.end)) why

stays : LoopSteps → (t : Tested) → (t.why ≡ Locked → end_of t.processor ≡ Some Locked) → (t.why ≡ Loop → end_of t.processor ≡ Some Loop) → (t.why ≡ Locked) ⊎ (t.why ≡ Loop) → StaysThere t.processor
stays loop_step t locked loop (inl is) = locked_stays t.processor (locked is)
stays loop_step t locked loop (inr is) = loop_stays loop_step t.processor (loop is)

pub nothing_more : LoopSteps → NothingMoreHappens
unfolding test_of
nothing_more loop_step rom moves frames why =
    let inputs = inputs_of_moves moves ++ replicate frames (Frame 0) in
    stays loop_step (tested frames 0 inputs (start rom)) (ends_so Locked (λ e. absurd (cc)) (λ e. absurd (cc)) frames 0 inputs (start rom))
    (ends_so Loop (λ e. absurd (cc)) (λ e. absurd (cc)) frames 0 inputs (start rom)) why
