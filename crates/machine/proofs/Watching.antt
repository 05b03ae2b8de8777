-- What is seen in a frame, step by step.
use Rattle.std.proofs.Common.{◌≡◌, ℕ, zero, suc, ◌+◌, ◌<◌, ◌≤◌, List, [], true, false, nat_lt, refl, ap, sym, ◌∙◌, add-one, arith, inl, inr}
use Rattle.std.specs.Prelude.{◌==◌, if◌then◌else◌, Bool}
use Rattle.std.specs.Fn.{iterate}
use Rattle.std.proofs.lemmas.Bool.{lt-ltb, le-ltb, cases_lt}
use Rattle.memory_map.specs.State.{BusState}
use Rattle.memory_map.specs.Bus.{read_at}
use Rattle.memory_map.specs.BusRules.{bus_rules}
use Rattle.memory_map.specs.Ticks.{tick}
use Rattle.sm83_processor.specs.Steps.{Step, step_of, passing, waited}
use Rattle.sm83_processor.specs.FastStep.{IsFast}
use Rattle.sm83_processor.specs.declared.processor.Processor.{Processor}
use Rattle.sm83_processor.proofs.StepCycles.{step-bounds}
use Rattle.sm83_processor.proofs.FastSteps.{fast_step}
use Rattle.machine.specs.Waiting.{Waits}
use Rattle.machine.specs.Sent.{sent_in_step}
use Rattle.machine.specs.Watched.{FrameState, Seen, is_breakpoint, ended, broken_off, sent_before, after_step, seen_until, seen_in, seen_from}
use Rattle.machine.specs.Watching.{in_frame, IsSilent}
use Rattle.machine.proofs.Sent.{nothing_is_sent, stays_silent}

abbrev pub seen_then : FrameState → Seen → Seen
seen_then f rest =
    sent_before (sent_in_step f.processor) (if is_breakpoint (step_of bus_rules f.processor).stepped.kind then broken_off (after_step f) else rest)

pub seen-step : (k j : ℕ) (f : FrameState) → k ≡ j + 1 → f.passed < 17556 → seen_until k f ≡ seen_then f (seen_until j (after_step f))
unfolding seen_until
seen-step k j f e below =
    let test : nat_lt f.passed 17556 ≡ true = lt-ltb f.passed 17556 below in
    rw (e, add-one, test) refl

pub seen-end : (k : ℕ) (f : FrameState) → 17556 ≤ f.passed → seen_until k f ≡ ended f
unfolding seen_until
seen-end zero f above = refl
seen-end (suc k) f above =
    let test : nat_lt f.passed 17556 ≡ false = le-ltb f.passed 17556 above in
    rw test refl

fuel : (k j : ℕ) (f : FrameState) → 17556 ≤ f.passed + k → 17556 ≤ f.passed + j → seen_until k f ≡ seen_until j f
fuel zero j f enough also = seen-end zero f (omega (arith, enough)) ∙ sym (seen-end j f (omega (arith, enough)))
fuel (suc k) zero f enough also = seen-end (suc k) f (omega (arith, also)) ∙ sym (seen-end zero f (omega (arith, also)))
fuel (suc k) (suc j) f enough also =
    elim (cases_lt f.passed 17556) [
      | inl below ↦
          let some = (step-bounds bus_rules f.processor).some in
          seen-step (suc k) k f (omega arith) below
          ∙ ap (seen_then f) (fuel k j (after_step f) (omega (arith, enough, some)) (omega (arith, also, some)))
          ∙ sym (seen-step (suc j) j f (omega arith) below)
      | inr above ↦ seen-end (suc k) f above ∙ sym (seen-end (suc j) f above)
    ]

-- a frame whose M-cycles have passed shows nothing more
pub none_seen : (f : FrameState) → 17556 ≤ f.passed → seen_in f ≡ ended f
none_seen f above = seen-end 17556 f above

pub seen_first : (f : FrameState) → f.passed < 17556 → seen_in f ≡ seen_then f (seen_in (after_step f))
seen_first f below =
    let some = (step-bounds bus_rules f.processor).some in
    seen-step 17556 17555 f (omega arith) below
    ∙ ap (seen_then f) (fuel 17555 17556 (after_step f) (omega (arith, some)) (omega (arith, some)))

-- a step, and what is seen after it
pub seen_by_step : (passed cycles : ℕ) (bytes : List ℕ) (breaks : Bool) (p q : Processor BusState) → passed < 17556 → q ≡ (step_of bus_rules p).after
    → cycles ≡ (step_of bus_rules p).stepped.cycles → bytes ≡ sent_in_step p → breaks ≡ is_breakpoint (step_of bus_rules p).stepped.kind
    → seen_in (in_frame passed p) ≡ sent_before bytes (seen_from breaks (in_frame (passed + cycles) q))
seen_by_step passed cycles bytes breaks p q below e f sent broke =
    seen_first (in_frame passed p) below
    ∙ ap (λ (n : ℕ). sent_before (sent_in_step p) (seen_from (is_breakpoint (step_of bus_rules p).stepped.kind) (in_frame (passed + n) (step_of bus_rules p).after))) (sym f)
    ∙ ap (λ (q : Processor BusState). sent_before (sent_in_step p) (seen_from (is_breakpoint (step_of bus_rules p).stepped.kind) (in_frame (passed + cycles) q))) (sym e)
    ∙ ap (λ (b : Bool). sent_before (sent_in_step p) (seen_from b (in_frame (passed + cycles) q))) (sym broke)
    ∙ ap (λ (bs : List ℕ). sent_before bs (seen_from breaks (in_frame (passed + cycles) q))) (sym sent)

-- a step in which nothing is seen
pub unseen_on : (passed cycles : ℕ) (p q : Processor BusState) → passed < 17556 → q ≡ (step_of bus_rules p).after
    → cycles ≡ (step_of bus_rules p).stepped.cycles → IsSilent p.memory → is_breakpoint (step_of bus_rules p).stepped.kind ≡ false
    → seen_in (in_frame (passed + cycles) q) ≡ seen_in (in_frame passed p)
unseen_on passed cycles p q below e f silent going =
    sym (seen_by_step passed cycles [] false p q below e f (sym (nothing_is_sent p (inl silent))) (sym going))

-- a fast step runs `LD B,B` just if that is the opcode at PC
breakpoint_by_opcode : (opcode : ℕ) (p : Processor BusState) → IsFast bus_rules p → opcode ≡ read_at p.memory p.registers.pc
    → is_breakpoint (step_of bus_rules p).stepped.kind ≡ (opcode == 0x40)
breakpoint_by_opcode opcode p fast e = ap (λ (s : Step BusState). is_breakpoint s.stepped.kind) (fast_step bus_rules p fast) ∙ ap (λ (n : ℕ). n == 0x40) (sym e)

-- a fast step where no transfer runs
pub fast_on : (passed cycles opcode : ℕ) (breaks : Bool) (p q : Processor BusState) → passed < 17556 → q ≡ (step_of bus_rules p).after
    → cycles ≡ (step_of bus_rules p).stepped.cycles → IsSilent p.memory → IsFast bus_rules p → opcode ≡ read_at p.memory p.registers.pc → breaks ≡ (opcode == 0x40)
    → seen_in (in_frame passed p) ≡ seen_from breaks (in_frame (passed + cycles) q)
fast_on passed cycles opcode breaks p q below e f silent fast here broke =
    seen_by_step passed cycles [] breaks p q below e f (sym (nothing_is_sent p (inl silent))) (broke ∙ sym (breakpoint_by_opcode opcode p fast here))

-- where a frame goes on, the same is still to be seen in it
pub seen_on : (breaks : Bool) (f g h : FrameState) → seen_in f ≡ seen_from breaks g → breaks ≡ false → seen_in f ≡ seen_in h → seen_in g ≡ seen_in h
seen_on breaks f g h on whole so_far = sym (on ∙ ap (λ (b : Bool). seen_from b g) whole) ∙ so_far

-- ---- waits

pub unseen_waits : (n passed : ℕ) (p : Processor BusState) → passed + n ≤ 17556 → Waits n p → IsSilent p.memory
    → seen_in (in_frame (passed + n) (passing bus_rules n p)) ≡ seen_in (in_frame passed p)
unseen_waits zero passed p le waits silent = let e : passed + zero ≡ passed = omega arith in ap (λ (m : ℕ). seen_in (in_frame m p)) e
unseen_waits (suc n) passed p le waits silent =
    let first : step_of bus_rules p ≡ waited bus_rules p = waits zero (omega arith) in
    let whole : passed + suc n ≡ passed + 1 + n = omega arith in
    ap (λ (m : ℕ). seen_in (in_frame m (passing bus_rules (suc n) p))) whole
    ∙ unseen_waits n (passed + 1) (passing bus_rules 1 p) (omega (arith, le)) (λ k lt. waits (suc k) (omega (arith, lt))) (stays_silent 1 p.memory silent)
    ∙ unseen_on passed 1 p (passing bus_rules 1 p) (omega (arith, le)) (sym (ap (λ (s : Step BusState). s.after) first))
    (sym (ap (λ (s : Step BusState). s.stepped.cycles) first)) silent (ap (λ (s : Step BusState). is_breakpoint s.stepped.kind) first)

pub unseen_waits_on : (passed n : ℕ) (p : Processor BusState) (b : BusState) → passed + n ≤ 17556 → b ≡ iterate tick n p.memory → Waits n p → IsSilent p.memory
    → seen_in (in_frame (passed + n) (record p { memory = b })) ≡ seen_in (in_frame passed p)
unseen_waits_on passed n p b le f waits silent =
    ap (λ (b : BusState). seen_in (in_frame (passed + n) (record p { memory = b }))) f ∙ unseen_waits n passed p le waits silent
