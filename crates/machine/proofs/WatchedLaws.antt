-- A watched frame is its steps, and the frame.
use Rattle.std.proofs.Common.{◌≡◌, ℕ, zero, suc, ◌-◌, [], ◌++◌, true, false, refl, ap, sym, subst, ◌∙◌, arith, inl, inr}
use Rattle.std.specs.Prelude.{Bool, if◌then◌else◌}
use Rattle.std.proofs.lemmas.Bool.{cases_lt}
use Rattle.memory_map.specs.State.{BusState}
use Rattle.memory_map.specs.BusRules.{bus_rules}
use Rattle.sm83_processor.specs.Steps.{step_of, after_steps}
use Rattle.machine.specs.Machine.{Ahead, cycles_of_steps, steps_until}
use Rattle.machine.specs.Sent.{sent_in, sent_in_step, serial_at_accesses}
use Rattle.machine.specs.Watched.{FrameState, Seen, after_step, begun_with, broken_off, ended, is_breakpoint, seen_until, sent_before}
use Rattle.machine.specs.WatchedLaws.{IsOfSteps, SeesItsSteps, StepSendsOnTime, WatchingChangesNothing}
use Rattle.machine.proofs.Sent.{last_in_cycles, none_in_cycles}
use Rattle.machine.proofs.Frames.{steps_until-step, steps_until-end}
use Rattle.machine.proofs.Watching.{seen-step, seen-end}

abbrev ahead : Seen → Ahead BusState
ahead seen = record { after = seen.end.processor; overrun = seen.end.passed - 17556 }

-- ---- its steps

no_step : (f : FrameState) (breaks : Bool) → IsOfSteps f (record { end = f; sent = []; breaks = breaks })
unfolding after_steps cycles_of_steps sent_in
no_step f breaks = record { steps = 0; reached = refl; passed = omega arith; sent = refl }

one_more : (f : FrameState) (rest : Seen) → IsOfSteps (after_step f) rest → IsOfSteps f (sent_before (sent_in_step f.processor) rest)
unfolding after_steps cycles_of_steps sent_in
one_more f rest is = record {
  steps = suc is.steps;
  reached = is.reached;
  passed = omega (arith, is.passed);
  sent = ap (λ bytes. sent_in_step f.processor ++ bytes) is.sent;
}

one_more_or_last : (b : Bool) (f : FrameState) (rest : Seen) → IsOfSteps (after_step f) rest
    → IsOfSteps f (sent_before (sent_in_step f.processor) (if b then broken_off (after_step f) else rest))
one_more_or_last true f rest is = one_more f (broken_off (after_step f)) (no_step (after_step f) true)
one_more_or_last false f rest is = one_more f rest is

none_left : (f : FrameState) → seen_until zero f ≡ ended f
unfolding seen_until
none_left f = refl

none_due : (f : FrameState) → ahead (ended f) ≡ steps_until bus_rules zero f.passed f.processor
unfolding steps_until
none_due f = refl

of_steps : (k : ℕ) (f : FrameState) → IsOfSteps f (seen_until k f)
of_steps zero f = subst (IsOfSteps f) (sym (none_left f)) (no_step f false)
of_steps (suc k) f =
    elim (cases_lt f.passed 17556) [
      | inl below ↦
          subst (IsOfSteps f) (sym (seen-step (suc k) k f (omega arith) below))
          (one_more_or_last (is_breakpoint (step_of bus_rules f.processor).stepped.kind) f (seen_until k (after_step f)) (of_steps k (after_step f)))
      | inr above ↦ subst (IsOfSteps f) (sym (seen-end (suc k) f above)) (no_step f false)
    ]

pub sees_its_steps : SeesItsSteps
sees_its_steps f = of_steps 17556 f

-- ---- the frame

goes_on : (b : Bool) (f : FrameState) (rest : Seen) (whole : Ahead BusState) → (rest.breaks ≡ false → ahead rest ≡ whole)
    → (sent_before (sent_in_step f.processor) (if b then broken_off (after_step f) else rest)).breaks ≡ false
    → ahead (sent_before (sent_in_step f.processor) (if b then broken_off (after_step f) else rest)) ≡ whole
goes_on true f rest whole is going = cc
goes_on false f rest whole is going = is going

as_steps : (k : ℕ) (f : FrameState) → (seen_until k f).breaks ≡ false → ahead (seen_until k f) ≡ steps_until bus_rules k f.passed f.processor
as_steps zero f going = ap ahead (none_left f) ∙ none_due f
as_steps (suc k) f going =
    elim (cases_lt f.passed 17556) [
      | inl below ↦
          let step = seen-step (suc k) k f (omega arith) below in
          ap ahead step
          ∙ goes_on (is_breakpoint (step_of bus_rules f.processor).stepped.kind) f (seen_until k (after_step f)) _ (as_steps k (after_step f))
          (sym (ap (λ (s : Seen). s.breaks) step) ∙ going)
          ∙ sym (steps_until-step bus_rules (suc k) k f.passed f.processor (omega arith) below)
      | inr above ↦ ap ahead (seen-end (suc k) f above) ∙ sym (steps_until-end bus_rules (suc k) f.passed f.processor above)
    ]

pub watching_changes_nothing : WatchingChangesNothing
watching_changes_nothing buttons m going =
    ap (λ (a : Ahead BusState). record { processor = a.after; overrun = a.overrun }) (as_steps 17556 (begun_with buttons m) going)

-- ---- a step

pub sends_on_time : StepSendsOnTime
sends_on_time p = record {
  some = λ some few. last_in_cycles (step_of bus_rules p).stepped.cycles (serial_at_accesses p) some few;
  none = λ none. none_in_cycles (step_of bus_rules p).stepped.cycles (serial_at_accesses p) none;
}
