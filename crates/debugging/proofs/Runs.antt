-- Runs of a debugger, one after another, and what they send.
use Rattle.std.proofs.Common.{◌≡◌, ◌∙◌, ◌⊎◌, inl, inr, ℕ, zero, suc, ◌+◌, ◌-◌, ◌*◌, ◌<◌, ◌≤◌, Bool, true, false, List, [], ◌++◌, length, append-nil, append_assoc, ap, refl, subst, sym, arith}
use Rattle.std.specs.Prelude.{◌==◌, ◌%◌, ◌^◌, nat_lt}
use Rattle.std.specs.List.{Contains}
use Rattle.std.proofs.lemmas.Bool.{lt-ltb, le-ltb}
use Rattle.std.proofs.lemmas.Bool.Decides.{nat_tests}
use Rattle.std.proofs.lemmas.Map.Views.{Contains-from_any}
use Rattle.circular_buffer.specs.Buffer.{keep_last}
use Rattle.memory_map.specs.State.{BusState}
use Rattle.memory_map.specs.BusRules.{bus_rules}
use Rattle.sm83_processor.specs.Steps.{step_of, after_steps}
use Rattle.sm83_processor.specs.declared.processor.Processor.{Processor}
use Rattle.std.proofs.Math.Nat.{mod-add-mod}
use Rattle.machine.specs.Machine.{cycles_of_steps}
use Rattle.machine.specs.Sent.{sent_in, sent_in_step}
use Rattle.machine.proofs.Sent.{nothing_is_sent_in}
use Rattle.debugger.specs.History.{DebuggerState, after_run}
use Rattle.debugger.proofs.Histories.{keep_last-all, keep_last-again, not_begun, runs}
use Rattle.debugging.specs.Quiet.{IsQuietFor, Makes, MakesIn, StopsBefore, StopsIn, has_pc}
use Rattle.debugging.specs.declared.position.Played.{Played}
use Rattle.debugging.specs.Position.{with_cycles}
use Rattle.debugging.specs.Run.{RunState, after_steps_of, most_sent, processor_of, steps_before, steps_up_to}
use Rattle.debugging.proofs.Places.{before_elsewhere, before_none, before_there, made}

-- ---- bytes

pub one_sent : (p : Processor BusState) → sent_in 1 p ≡ sent_in_step p
unfolding sent_in
one_sent p = append-nil _

none_sent : (p : Processor BusState) → sent_in 0 p ≡ []
unfolding sent_in
none_sent p = refl

sent_more : (m n : ℕ) (p : Processor BusState) → sent_in m p ++ sent_in n (after_steps bus_rules m p) ≡ sent_in (m + n) p
unfolding sent_in after_steps
sent_more zero n p = let e : n ≡ 0 + n = omega arith in ap (λ (k : ℕ). sent_in k p) e
sent_more (suc m) n p =
    let e : suc (m + n) ≡ suc m + n = omega arith in
    append_assoc (sent_in_step p) (sent_in m (step_of bus_rules p).after) _
    ∙ ap (λ (bytes : List ℕ). sent_in_step p ++ bytes) (sent_more m n (step_of bus_rules p).after)
    ∙ ap (λ (k : ℕ). sent_in k p) e

-- ---- M-cycles

pub one_cycles : (p : Processor BusState) → cycles_of_steps bus_rules 1 p ≡ (step_of bus_rules p).stepped.cycles
unfolding cycles_of_steps
one_cycles p = omega arith

pub none_cycles : (p : Processor BusState) → cycles_of_steps bus_rules 0 p ≡ 0
unfolding cycles_of_steps
none_cycles p = refl

pub cycles_more : (m n : ℕ) (p : Processor BusState) → cycles_of_steps bus_rules m p + cycles_of_steps bus_rules n (after_steps bus_rules m p) ≡ cycles_of_steps bus_rules (m + n) p
unfolding cycles_of_steps after_steps
cycles_more zero n p =
    let e : n ≡ 0 + n = omega arith in
    let none : 0 + cycles_of_steps bus_rules n p ≡ cycles_of_steps bus_rules n p = omega arith in
    none ∙ ap (λ (k : ℕ). cycles_of_steps bus_rules k p) e
cycles_more (suc m) n p =
    let e : suc (m + n) ≡ suc m + n = omega arith in
    let after = (step_of bus_rules p).after in
    let first : ℕ = (step_of bus_rules p).stepped.cycles in
    let rest = cycles_more m n after in
    let all : (first + cycles_of_steps bus_rules m after) + cycles_of_steps bus_rules n (after_steps bus_rules m after) ≡ first + cycles_of_steps bus_rules (m + n) after = omega (arith, rest) in
    all ∙ ap (λ (k : ℕ). cycles_of_steps bus_rules k p) e

-- the M-cycles of a debugger's steps, and of some more
pub cycles_in_all : (m n a b : ℕ) (old now : DebuggerState) → now ≡ after_run m old → a ≡ cycles_of_steps bus_rules m old.machine.processor
    → b ≡ cycles_of_steps bus_rules n now.machine.processor → a + b ≡ cycles_of_steps bus_rules (m + n) old.machine.processor
cycles_in_all m n a b old now run first second =
    let here = second ∙ ap (λ (d : DebuggerState). cycles_of_steps bus_rules n d.machine.processor) run in
    let all = cycles_more m n old.machine.processor in
    omega (arith, first, here, all)

counted_as : Played → ℕ → Played
counted_as played n = record { cycles = n; frames = played.frames }

cycles_twice : (a b : ℕ) (played : Played) → with_cycles b (with_cycles a played) ≡ with_cycles (a + b) played
unfolding counted_as
cycles_twice a b played =
    let whole : (played.cycles + a) + b ≡ played.cycles + (a + b) = omega arith in
    ap (counted_as played) (mod-add-mod (played.cycles + a) (2 ^ 64) b ∙ ap (λ (n : ℕ). n % 2 ^ 64) whole)

no_cycles_more : (played : Played) → played.cycles < 2 ^ 64 → played ≡ with_cycles 0 played
unfolding counted_as
no_cycles_more played below =
    let same : played.cycles ≡ (played.cycles + 0) % 2 ^ 64 = omega (arith, below) in
    ap (counted_as played) same

-- ---- runs

abbrev run_as : DebuggerState → List ℕ → Played → RunState
run_as d sent played = record { debugger = d; sent = sent; played = played }

pub no_steps : (r : RunState) → length r.debugger.history ≤ r.debugger.size → length r.sent ≤ most_sent → r.played.cycles < 2 ^ 64 → r ≡ after_steps_of 0 r
no_steps r held kept below =
    ap (λ (d : DebuggerState). run_as d r.sent r.played) (not_begun r.debugger held)
    ∙ ap (λ (sent : List ℕ). run_as (after_run 0 r.debugger) sent r.played) (sym (keep_last-all most_sent r.sent kept) ∙ ap (keep_last most_sent) (sym (append-nil r.sent)
    ∙ ap (λ (bytes : List ℕ). r.sent ++ bytes) (sym (none_sent (processor_of r)))))
    ∙ ap (run_as (after_run 0 r.debugger) (after_steps_of 0 r).sent) (no_cycles_more r.played below
    ∙ ap (λ (n : ℕ). with_cycles n r.played) (sym (none_cycles (processor_of r))))

pub more_steps : (m n : ℕ) (r : RunState) → after_steps_of n (after_steps_of m r) ≡ after_steps_of (m + n) r
more_steps m n r =
    let p = processor_of r in
    ap (λ (d : DebuggerState). run_as d (after_steps_of n (after_steps_of m r)).sent (after_steps_of n (after_steps_of m r)).played) (runs n m r.debugger)
    ∙ ap (λ (sent : List ℕ). run_as (after_run (m + n) r.debugger) sent (after_steps_of n (after_steps_of m r)).played)
    (keep_last-again most_sent (r.sent ++ sent_in m p) (sent_in n (after_steps bus_rules m p))
    ∙ ap (keep_last most_sent) (append_assoc r.sent _ _ ∙ ap (λ (bytes : List ℕ). r.sent ++ bytes) (sent_more m n p)))
    ∙ ap (run_as (after_run (m + n) r.debugger) (after_steps_of (m + n) r).sent)
    (cycles_twice (cycles_of_steps bus_rules m p) (cycles_of_steps bus_rules n (after_steps bus_rules m p)) r.played
    ∙ ap (λ (k : ℕ). with_cycles k r.played) (cycles_more m n p))

pub and_one : (n : ℕ) (r now after : RunState) → now ≡ after_steps_of n r → after ≡ after_steps_of 1 now → after ≡ after_steps_of (n + 1) r
and_one n r now after so_far step = step ∙ ap (after_steps_of 1) so_far ∙ more_steps n 1 r

pub and_more : (m n : ℕ) (r now after : RunState) → now ≡ after_steps_of m r → after ≡ after_steps_of n now → after ≡ after_steps_of (m + n) r
and_more m n r now after so_far more = more ∙ ap (after_steps_of n) so_far ∙ more_steps m n r

-- a step whose byte, if it sent one, was kept, and whose M-cycles were counted
pub step_noted : (r : RunState) (d after : DebuggerState) (old new bytes : List ℕ) (capacity : ℕ) (played counted : Played) → record { debugger = d; sent = old; played = played } ≡ r
    → capacity ≡ most_sent → after ≡ after_run 1 d → new ≡ keep_last capacity (old ++ bytes) → bytes ≡ sent_in_step d.machine.processor
    → counted ≡ with_cycles (step_of bus_rules d.machine.processor).stepped.cycles played
    → record { debugger = after; sent = new; played = counted } ≡ after_steps_of 1 r
step_noted r d after old new bytes capacity played counted same room run kept sent count =
    ap (λ (e : DebuggerState). run_as e new counted) run
    ∙ ap (λ (bs : List ℕ). run_as (after_run 1 d) bs counted) (kept ∙ ap (λ (n : ℕ). keep_last n (old ++ bytes)) room
    ∙ ap (λ (bs : List ℕ). keep_last most_sent (old ++ bs)) (sent ∙ sym (one_sent d.machine.processor)))
    ∙ ap (run_as (after_run 1 d) (keep_last most_sent (old ++ sent_in 1 d.machine.processor))) (count ∙ ap (λ (n : ℕ). with_cycles n played) (sym (one_cycles d.machine.processor)))
    ∙ ap (after_steps_of 1) same

-- steps in which no transfer can end
pub quiet_run : (n k cycles : ℕ) (r : RunState) (d : DebuggerState) (counted : Played) → IsQuietFor k (processor_of r) → n ≤ k → length r.sent ≤ most_sent → d ≡ after_run n r.debugger
    → cycles ≡ cycles_of_steps bus_rules n (processor_of r) → counted ≡ with_cycles cycles r.played
    → record { debugger = d; sent = r.sent; played = counted } ≡ after_steps_of n r
quiet_run n k cycles r d counted quiet few kept run took count =
    ap (λ (e : DebuggerState). run_as e r.sent counted) run
    ∙ ap (λ (sent : List ℕ). run_as (after_run n r.debugger) sent counted) (sym (keep_last-all most_sent r.sent kept) ∙ ap (keep_last most_sent) (sym (append-nil r.sent)
    ∙ ap (λ (bytes : List ℕ). r.sent ++ bytes) (sym (nothing_is_sent_in n (processor_of r) (omega (arith, few, quiet.few)) (far quiet.far)))))
    ∙ ap (run_as (after_run n r.debugger) (after_steps_of n r).sent) (count ∙ ap (λ (c : ℕ). with_cycles c r.played) took)
  where
    far : ((processor_of r).memory.serial.serial.cycles_left ≡ 0) ⊎ (6 * k < (processor_of r).memory.serial.serial.cycles_left)
        → ((processor_of r).memory.serial.serial.cycles_left ≡ 0) ⊎ (6 * n < (processor_of r).memory.serial.serial.cycles_left)
    far (inl none) = inl none
    far (inr more) = inr (omega (arith, more, few))

-- ---- addresses

tells : (x y : ℕ) → (y == x) ≡ true → x ≡ y
tells x y e = grind (arith, nat_tests)

pub at_none : (addresses : List ℕ) (p : Processor BusState) → ¬ (Contains addresses p.registers.pc) → has_pc addresses p ≡ false
at_none addresses p none = go (has_pc addresses p) refl
  where
    go : (b : Bool) → has_pc addresses p ≡ b → has_pc addresses p ≡ false
    go true e = absurd (none (Contains-from_any tells p.registers.pc addresses e))
    go false e = e

-- ---- a run up to a place, in parts

pub one_made : (is_there : Processor BusState → Bool) (old new : RunState) → new ≡ after_steps_of 1 old → Makes is_there 1 old new
one_made is_there old new run = record { some = omega arith; past = λ k some less. absurd (omega (arith, some, less)); run = run }

pub stops_sooner : (is_there : Processor BusState → Bool) (m n : ℕ) (old new : RunState) → m ≤ n → StopsBefore is_there m old new → StopsBefore is_there n old new
stops_sooner is_there m n old new less it = record { steps = it.steps; made = it.made; due = omega (arith, it.due, less); there = it.there }

module _ (limit cycles : ℕ) (r inside : RunState) (d : DebuggerState) (counted : Played) (same : inside ≡ r) (quiet : IsQuietFor limit (processor_of r)) (kept : length inside.sent ≤ most_sent)
    (count : counted ≡ with_cycles cycles inside.played) where
  quiet_here : IsQuietFor limit (processor_of inside)
  quiet_here = subst (λ (x : RunState). IsQuietFor limit (processor_of x)) (sym same) quiet

  pub steps_made : (is_there : Processor BusState → Bool) → MakesIn is_there limit cycles inside.debugger d → Makes is_there limit r (run_as d inside.sent counted)
  steps_made is_there it =
      subst (λ (x : RunState). Makes is_there limit x (run_as d inside.sent counted)) same
      (record { some = it.some; past = it.past; run = quiet_run limit limit cycles inside d counted quiet_here (omega arith) kept it.run it.took count })

  pub steps_stop : (is_there : Processor BusState → Bool) → StopsIn is_there limit cycles inside.debugger d → StopsBefore is_there limit r (run_as d inside.sent counted)
  steps_stop is_there it =
      subst (λ (x : RunState). StopsBefore is_there limit x (run_as d inside.sent counted)) same
      (record {
        steps = it.steps;
        made = record { some = it.made.some; past = it.made.past; run = quiet_run it.steps limit cycles inside d counted quiet_here (omega (arith, it.due)) kept it.made.run it.made.took count };
        due = it.due;
        there = it.there;
      })

-- `left` steps are still to be made of at most `limit`, the first of them wherever it begins
pub record IsGoing (is_there : Processor BusState → Bool) (limit left : ℕ) (old now : RunState) : Type 0 where
  pub few : left ≤ limit
  pub run : now ≡ after_steps_of (limit - left) old
  pub steps : steps_up_to is_there limit (processor_of old) ≡ (limit - left) + steps_up_to is_there left (processor_of now)

pub begun_going : (is_there : Processor BusState → Bool) (limit : ℕ) (r : RunState) → r ≡ after_steps_of 0 r → IsGoing is_there limit limit r r
begun_going is_there limit r same =
    let none : limit - limit ≡ 0 = omega arith in
    record {
      few = omega arith;
      run = same ∙ ap (λ (n : ℕ). after_steps_of n r) (sym none);
      steps = omega (arith, none);
    }

module _ (is_there : Processor BusState → Bool) (limit left : ℕ) (old now : RunState) (going : IsGoing is_there limit left old now) where
  add_up : (a b c d : ℕ) → a + b ≡ d → a + (b + c) ≡ d + c
  add_up a b c d e = omega (arith, e)

  more_made : (k : ℕ) (after : RunState) → k ≤ left → Makes is_there k now after
      → (after ≡ after_steps_of (limit - (left - k)) old)
      × (steps_up_to is_there limit (processor_of old) ≡ (limit - (left - k)) + steps_before is_there (left - k) (processor_of after))
  more_made k after few makes =
      let total : (limit - left) + k ≡ limit - (left - k) = omega (arith, few, going.few) in (
        and_more (limit - left) k old now after going.run makes.run ∙ ap (λ (n : ℕ). after_steps_of n old) total,
        going.steps ∙ ap (λ (n : ℕ). (limit - left) + n) (made is_there k left (processor_of now) makes.some few makes.past)
            ∙ add_up (limit - left) k (steps_before is_there (left - k) (after_steps bus_rules k (processor_of now))) (limit - (left - k)) total
            ∙ ap (λ (r : RunState). (limit - (left - k)) + steps_before is_there (left - k) (processor_of r)) (sym makes.run),
      )

  from : (n : ℕ) (r : RunState) → (0 < n → is_there (processor_of r) ≡ false) → steps_before is_there n (processor_of r) ≡ steps_up_to is_there n (processor_of r)
  from zero r none = before_none is_there (processor_of r)
  from (suc n) r none = before_elsewhere is_there (suc n) (processor_of r) (none (omega arith))

  -- it goes on from elsewhere
  pub goes_on : (k : ℕ) (after : RunState) → k ≤ left → Makes is_there k now after → (0 < left - k → is_there (processor_of after) ≡ false)
      → IsGoing is_there limit (left - k) old after
  goes_on k after few makes elsewhere =
      let more = more_made k after few makes in
      record {
        few = omega (arith, going.few);
        run = more.0;
        steps = more.1 ∙ ap (λ (n : ℕ). (limit - (left - k)) + n) (from (left - k) after elsewhere);
      }

  -- how many steps are made where it stops
  pub stopped_after : (after : RunState) (it : StopsBefore is_there left now after) → steps_up_to is_there limit (processor_of old) ≡ limit - (left - it.steps)
  stopped_after after it =
      let more = more_made it.steps after (omega (arith, it.due)) it.made in
      let none = before_there is_there (left - it.steps) (processor_of after) it.there in
      omega (arith, more.1, none)

  -- it stops, before all steps are made
  pub stops : (after : RunState) → StopsBefore is_there left now after
      → (after ≡ after_steps_of (steps_up_to is_there limit (processor_of old)) old) × (true ≡ nat_lt (steps_up_to is_there limit (processor_of old)) limit)
  stops after it =
      let k = it.steps in
      let more = more_made k after (omega (arith, it.due)) it.made in
      let none = before_there is_there (left - k) (processor_of after) it.there in
      let total : steps_up_to is_there limit (processor_of old) ≡ limit - (left - k) = omega (arith, more.1, none) in (
        more.0 ∙ ap (λ (n : ℕ). after_steps_of n old) (sym total),
        sym (lt-ltb _ _ (omega (arith, total, it.due, going.few))),
      )

pub all_counted : (is_there : Processor BusState → Bool) (limit left : ℕ) (old now : RunState) → IsGoing is_there limit left old now → left ≡ 0
    → steps_up_to is_there limit (processor_of old) ≡ limit - left
all_counted is_there limit left old now going none =
    let rest : steps_up_to is_there left (processor_of now) ≡ 0 = ap (λ (n : ℕ). steps_up_to is_there n (processor_of now)) none in
    omega (arith, going.steps, rest)

-- all steps were made
pub all_made : (is_there : Processor BusState → Bool) (limit left : ℕ) (old now : RunState) → IsGoing is_there limit left old now → left ≡ 0
    → (now ≡ after_steps_of (steps_up_to is_there limit (processor_of old)) old) × (false ≡ nat_lt (steps_up_to is_there limit (processor_of old)) limit)
all_made is_there limit left old now going none =
    let rest : steps_up_to is_there left (processor_of now) ≡ 0 = ap (λ (n : ℕ). steps_up_to is_there n (processor_of now)) none in
    let total : steps_up_to is_there limit (processor_of old) ≡ limit - left = omega (arith, going.steps, rest) in (
      going.run ∙ ap (λ (n : ℕ). after_steps_of n old) (sym total),
      sym (le-ltb _ _ (omega (arith, total, none))),
    )
