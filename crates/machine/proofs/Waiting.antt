-- Waits of the processor over the bus, many at once, within a frame.
use Rattle.std.proofs.Common.{◌≡◌, ℕ, zero, suc, ◌+◌, ◌%◌, ◌<◌, ◌≤◌, Bool, Option, Some, None, true, false, cond, refl, sym, ap, subst, ◌∙◌, arith, inl, inr}
use Rattle.std.specs.Prelude.{◌&&◌, ◌==◌, if◌then◌else◌}
use Rattle.std.specs.Fn.{iterate}
use Rattle.std.proofs.lemmas.Bool.{cases_lt}
use Rattle.repeated_steps.specs.NextEvent.{IsNextEvent}
use Rattle.repeated_steps.proofs.Iterates.{iterate-suc}
use Rattle.picture_unit.specs.PictureJump.{IsSteady}
use Rattle.memory_map.specs.State.{BusState}
use Rattle.memory_map.specs.Joypad.{p1_value}
use Rattle.memory_map.specs.Bus.{pending_interrupts, acknowledged, read_at, register_value}
use Rattle.memory_map.specs.Ticks.{tick, happens}
use Rattle.memory_map.proofs.QuietTicks.{ComesAfter, bus_is_steady, pending_before, ticks_keep_p1}
use Rattle.sm83_processor.specs.Rules.{Rules}
use Rattle.memory_map.specs.BusRules.{bus_rules}
use Rattle.sm83_processor.specs.Execution.{at_pc, pushed, executed}
use Rattle.sm83_processor.specs.Steps.{Step, step_of, passing, waited, lowest_interrupt, vector_of, dispatched, decoded_at, begun, with_ime_due, ran, dispatched_or_ran, step_unstopped}
use Rattle.machine.specs.Machine.{steps_until}
use Rattle.machine.specs.Waiting.{Waits, within}
use Rattle.sm83_processor.specs.declared.processor.Processor.{Processor}
use Rattle.sm83_processor.proofs.StepCycles.{step-bounds, ran-bounds}
use Rattle.machine.proofs.Frames.{steps_until-step, steps_until-end}

-- ---- any number of steps that is enough gives the same frame

fuel : {M : Type 0} (r : Rules M) (k j n : ℕ) (p : Processor M) → 17556 ≤ n + k → 17556 ≤ n + j → steps_until r k n p ≡ steps_until r j n p
fuel r zero j n p enough also = steps_until-end r zero n p (omega (arith, enough)) ∙ sym (steps_until-end r j n p (omega (arith, enough)))
fuel r (suc k) zero n p enough also = steps_until-end r (suc k) n p (omega (arith, also)) ∙ sym (steps_until-end r zero n p (omega (arith, also)))
fuel r (suc k) (suc j) n p enough also =
    elim (cases_lt n 17556) [
      | inl below ↦
          let some = (step-bounds r p).some in
          steps_until-step r (suc k) k n p (omega arith) below
          ∙ fuel r k j (n + (step_of r p).stepped.cycles) (step_of r p).after (omega (arith, enough, some)) (omega (arith, also, some))
          ∙ sym (steps_until-step r (suc j) j n p (omega arith) below)
      | inr above ↦ steps_until-end r (suc k) n p above ∙ sym (steps_until-end r (suc j) n p above)
    ]

pub until_step : {M : Type 0} (r : Rules M) (n : ℕ) (p : Processor M) → n < 17556 →
    steps_until r 17556 n p ≡ steps_until r 17556 (n + (step_of r p).stepped.cycles) (step_of r p).after
until_step r n p below =
    let some = (step-bounds r p).some in
    steps_until-step r 17556 17555 n p (omega arith) below
    ∙ fuel r 17555 17556 (n + (step_of r p).stepped.cycles) (step_of r p).after (omega (arith, some)) (omega (arith, some))

-- ---- waits are as many steps

pub until_waits : (n passed : ℕ) (p : Processor BusState) → passed + n ≤ 17556 → Waits n p →
    steps_until bus_rules 17556 (passed + n) (passing bus_rules n p) ≡ steps_until bus_rules 17556 passed p
until_waits zero passed p le waits = let e : passed + zero ≡ passed = omega arith in ap (λ (m : ℕ). steps_until bus_rules 17556 m p) e
until_waits (suc n) passed p le waits =
    let first : step_of bus_rules p ≡ waited bus_rules p = waits zero (omega arith) in
    let whole : passed + suc n ≡ passed + 1 + n = omega arith in
    let rest = until_waits n (passed + 1) (passing bus_rules 1 p) (omega (arith, le)) (λ k lt. waits (suc k) (omega (arith, lt))) in
    ap (λ (m : ℕ). steps_until bus_rules 17556 m (passing bus_rules (suc n) p)) whole
    ∙ rest
    ∙ ap (λ (s : Step BusState). steps_until bus_rules 17556 (passed + s.stepped.cycles) s.after) (sym first)
    ∙ sym (until_step bus_rules passed p (omega (arith, le)))

-- ---- a step leaves the STAT signal evaluated

ticks_are_steady : (n : ℕ) (b : BusState) → 0 < n → IsSteady (iterate tick n b).picture
ticks_are_steady zero b pos = absurd (omega (arith, pos))
ticks_are_steady (suc n) b pos = subst (λ (c : BusState). IsSteady c.picture) (sym (iterate-suc tick n b)) (bus_is_steady (iterate tick n b))

abbrev IsLeftSteady : Step BusState → Type 0
IsLeftSteady s = IsSteady s.after.memory.picture

either_is_steady : (b : Bool) (s t : Step BusState) → IsLeftSteady s → IsLeftSteady t → IsLeftSteady (if b then s else t)
either_is_steady true s t first second = first
either_is_steady false s t first second = second

passing_is_steady : (n : ℕ) (p : Processor BusState) → 0 < n → IsSteady (passing bus_rules n p).memory.picture
passing_is_steady n p pos = ticks_are_steady n p.memory pos

ran_is_steady : (p : Processor BusState) → IsLeftSteady (ran bus_rules p)
ran_is_steady p =
    let d = decoded_at bus_rules p in
    let done = with_ime_due p.state.ime_pending d.instr (executed bus_rules d.instr (begun d.length p)) in
    passing_is_steady (ran bus_rules p).stepped.cycles done (ran-bounds bus_rules p).some

dispatched_is_steady : (p : Processor BusState) → IsLeftSteady (dispatched bus_rules p)
dispatched_is_steady p =
    let bit = lowest_interrupt (pending_interrupts p.memory) in
    let quiet : Processor BusState = record p { state = record p.state { ime = false; ime_pending = false }; memory = acknowledged bit p.memory } in
    passing_is_steady 5 (at_pc (vector_of bit) (pushed bus_rules p.registers.pc quiet)) (omega arith)

dispatched_or_ran_is_steady : (p : Processor BusState) → IsLeftSteady (dispatched_or_ran bus_rules p)
dispatched_or_ran_is_steady p = either_is_steady _ (dispatched bus_rules p) (ran bus_rules p) (dispatched_is_steady p) (ran_is_steady p)

waited_is_steady : (p : Processor BusState) → IsLeftSteady (waited bus_rules p)
waited_is_steady p = passing_is_steady 1 p (omega arith)

abbrev going_of : Processor BusState → Processor BusState
going_of p = record p { state = record p.state { halted = false } }

step_unstopped_is_steady : (p : Processor BusState) → IsLeftSteady (step_unstopped bus_rules p)
step_unstopped_is_steady p = either_is_steady _ (waited bus_rules p) (dispatched_or_ran bus_rules (going_of p)) (waited_is_steady p) (dispatched_or_ran_is_steady (going_of p))

pub step_is_steady : (p : Processor BusState) → IsSteady (step_of bus_rules p).after.memory.picture
unfolding step_of
step_is_steady p =
    let on : Processor BusState = record p { state = record p.state { stopped = false } } in
    let waits = p.state.stopped && read_at p.memory 0xFF00 % 16 == 15 in
    either_is_steady p.state.locked (waited bus_rules p) (if waits then waited bus_rules p else step_unstopped bus_rules on) (waited_is_steady p)
    (either_is_steady waits (waited bus_rules p) (step_unstopped bus_rules on) (waited_is_steady p) (step_unstopped_is_steady on))

-- ---- which processors wait

abbrev on_of : Processor BusState → Processor BusState
on_of p = record p { state = record p.state { stopped = false } }

abbrev stop_test : Processor BusState → Step BusState
stop_test p = if p.state.stopped && read_at p.memory 0xFF00 % 16 == 15 then waited bus_rules p else step_unstopped bus_rules (on_of p)

locked_step : (p : Processor BusState) → p.state.locked ≡ true → step_of bus_rules p ≡ waited bus_rules p
unfolding step_of
locked_step p locked = ap (λ b. cond b (waited bus_rules p) (stop_test p)) locked

unlocked_step : (p : Processor BusState) → p.state.locked ≡ false → step_of bus_rules p ≡ stop_test p
unfolding step_of
unlocked_step p locked = ap (λ b. cond b (waited bus_rules p) (stop_test p)) locked

stopped_step : (p : Processor BusState) → p.state.stopped ≡ true → read_at p.memory 0xFF00 % 16 ≡ 15 → stop_test p ≡ waited bus_rules p
stopped_step p stopped low =
    ap (λ b. cond (b && read_at p.memory 0xFF00 % 16 == 15) (waited bus_rules p) (step_unstopped bus_rules (on_of p))) stopped
    ∙ ap (λ (n : ℕ). cond (n == 15) (waited bus_rules p) (step_unstopped bus_rules (on_of p))) low

halted_step : (p : Processor BusState) → p.state.stopped ≡ false → p.state.halted ≡ true → pending_interrupts p.memory ≡ 0 → stop_test p ≡ waited bus_rules p
halted_step p stopped halted none =
    let same : on_of p ≡ p = ap (λ (b : Bool). record p { state = record p.state { stopped = b } }) (sym stopped) in
    ap (λ b. cond (b && read_at p.memory 0xFF00 % 16 == 15) (waited bus_rules p) (step_unstopped bus_rules (on_of p))) stopped
    ∙ ap (λ (q : Processor BusState). step_unstopped bus_rules q) same
    ∙ ap (λ b. cond (b && pending_interrupts p.memory == 0) (waited bus_rules p) (dispatched_or_ran bus_rules (going_of p))) halted
    ∙ ap (λ (n : ℕ). cond (n == 0) (waited bus_rules p) (dispatched_or_ran bus_rules (going_of p))) none

pub locked_waits : (n : ℕ) (p : Processor BusState) → p.state.locked ≡ true → Waits n p
locked_waits n p locked k lt = locked_step (passing bus_rules k p) locked

p1_read : (b : BusState) → read_at b 0xFF00 ≡ p1_value b.control
unfolding read_at register_value
p1_read b = refl

pub stopped_waits : (n : ℕ) (p : Processor BusState) → p.state.locked ≡ false → p.state.stopped ≡ true → read_at p.memory 0xFF00 % 16 ≡ 15 → Waits n p
stopped_waits n p locked stopped low k lt =
    let same : read_at (iterate tick k p.memory) 0xFF00 ≡ read_at p.memory 0xFF00 = p1_read (iterate tick k p.memory) ∙ ticks_keep_p1 k p.memory ∙ sym (p1_read p.memory) in
    unlocked_step (passing bus_rules k p) locked ∙ stopped_step (passing bus_rules k p) stopped (ap (λ (n : ℕ). n % 16) same ∙ low)

later_than : (due : Option ℕ) (left k : ℕ) → k < within due left → ComesAfter due k
later_than None left k lt = tt
later_than (Some d) left k lt = omega (arith, lt)

pub halted_waits : (due : Option ℕ) (left : ℕ) (p : Processor BusState) → p.state.locked ≡ false → p.state.stopped ≡ false → p.state.halted ≡ true
    → pending_interrupts p.memory ≡ 0 → IsNextEvent tick happens p.memory due → IsSteady p.memory.picture → Waits (within due left) p
halted_waits due left p locked stopped halted none next steady k lt =
    let still : pending_interrupts (iterate tick k p.memory) ≡ 0 = pending_before p.memory due k steady next (later_than due left k lt) ∙ none in
    unlocked_step (passing bus_rules k p) locked ∙ halted_step (passing bus_rules k p) stopped halted still

-- a halted processor waits while IE and IF share no bit
pub unshared_waits : (n many : ℕ) (p : Processor BusState) → p.state.locked ≡ false → p.state.stopped ≡ false → p.state.halted ≡ true
    → ((k : ℕ) → k < many → pending_interrupts (iterate tick k p.memory) ≡ 0) → n ≤ many → Waits n p
unshared_waits n many p locked stopped halted none le k lt =
    unlocked_step (passing bus_rules k p) locked ∙ halted_step (passing bus_rules k p) stopped halted (none k (omega (arith, le, lt)))

-- ---- what a frame's loop does

pub stepped_on : (passed cycles : ℕ) (p q : Processor BusState) → passed < 17556 → q ≡ (step_of bus_rules p).after → cycles ≡ (step_of bus_rules p).stepped.cycles →
    steps_until bus_rules 17556 (passed + cycles) q ≡ steps_until bus_rules 17556 passed p
stepped_on passed cycles p q below e f =
    ap (λ (q : Processor BusState). steps_until bus_rules 17556 (passed + cycles) q) e
    ∙ ap (λ (n : ℕ). steps_until bus_rules 17556 (passed + n) (step_of bus_rules p).after) f
    ∙ sym (until_step bus_rules passed p below)

pub waits_on : (passed n : ℕ) (p : Processor BusState) (b : BusState) → passed + n ≤ 17556 → b ≡ iterate tick n p.memory → Waits n p
    → steps_until bus_rules 17556 (passed + n) (record p { memory = b }) ≡ steps_until bus_rules 17556 passed p
waits_on passed n p b le f waits =
    ap (λ (b : BusState). steps_until bus_rules 17556 (passed + n) (record p { memory = b })) f ∙ until_waits n passed p le waits

pub waited_on : (now n : ℕ) (p q : Processor BusState) (b : BusState) → now + n ≤ 17556 → q ≡ (step_of bus_rules p).after → b ≡ iterate tick n q.memory →
    (IsSteady q.memory.picture → Waits n q) → steps_until bus_rules 17556 (now + n) (record q { memory = b }) ≡ steps_until bus_rules 17556 now q
waited_on now n p q b le e f waits =
    let steady = subst (λ (q : Processor BusState). IsSteady q.memory.picture) (sym e) (step_is_steady p) in
    ap (λ (b : BusState). steps_until bus_rules 17556 (now + n) (record q { memory = b })) f ∙ until_waits n now q le (waits steady)
