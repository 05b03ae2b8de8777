-- A frame, and what is sent in it.
use Rattle.std.proofs.Common.{◌≡◌, ℕ, zero, suc, ◌+◌, ◌-◌, ◌≤◌, ◌<◌, Bool, IsTrue, true, false, List, [], ◌++◌, append-nil, append_assoc, length, nat_lt, refl, ap, sym, ◌∙◌, add-one, arith, inl, inr}
use Rattle.std.specs.Prelude.{if◌then◌else◌}
use Rattle.std.specs.Fn.{iterate}
use Rattle.sm83_processor.specs.declared.step.Executed.{Executed}
use Rattle.std.proofs.lemmas.Bool.{lt-ltb, le-ltb, cases_lt}
use Rattle.memory_map.specs.State.{BusState}
use Rattle.memory_map.specs.BusRules.{bus_rules}
use Rattle.sm83_processor.specs.Steps.{step_of}
use Rattle.sm83_processor.proofs.StepCycles.{step-bounds}
use Rattle.machine.specs.Machine.{Ahead, MachineState, frame_played, steps_until}
use Rattle.machine.specs.Sent.{sent_in_step}
use Rattle.machine.specs.Watched.{FrameState, Seen, after_step, begun_with, broken_off, is_breakpoint, machine_after, seen_from, seen_in, seen_until, sent_before}
use Rattle.machine.proofs.Frames.{steps_until-step, steps_until-end}
use Rattle.machine.proofs.Watching.{seen-step, seen-end}
use Rattle.debugger.specs.History.{DebuggerState}
use Rattle.debugger.proofs.Histories.{keep_last-all, keep_last-again}
use Rattle.circular_buffer.specs.Buffer.{keep_last}
use Rattle.debugging.specs.declared.position.Played.{Played}
use Rattle.debugging.specs.Position.{frame_cycles, with_frame}
use Rattle.debugging.specs.Run.{Rest, RunState, after_frame, after_frames, most_sent, rest_in, rest_until, sent_first}

abbrev pub nothing_more : FrameState → Rest
nothing_more f = record { end = f; sent = [] }

rest-step : (k j : ℕ) (f : FrameState) → k ≡ suc j → f.passed < 17556 → rest_until k f ≡ sent_first (sent_in_step f.processor) (rest_until j (after_step f))
unfolding rest_until
rest-step k j f e below =
    let test : nat_lt f.passed 17556 ≡ true = lt-ltb f.passed 17556 below in
    rw (e, test) refl

rest-end : (k : ℕ) (f : FrameState) → 17556 ≤ f.passed → rest_until k f ≡ nothing_more f
unfolding rest_until
rest-end zero f above = refl
rest-end (suc k) f above =
    let test : nat_lt f.passed 17556 ≡ false = le-ltb f.passed 17556 above in
    rw test refl

-- a frame that is over has no rest
pub over : (f : FrameState) → 17556 ≤ f.passed → rest_in f ≡ nothing_more f
over f above = rest-end 17556 f above

-- more steps than are enough change nothing
fuel : (k j : ℕ) (f : FrameState) → 17556 ≤ f.passed + k → 17556 ≤ f.passed + j → rest_until k f ≡ rest_until j f
fuel zero j f enough also = rest-end zero f (omega (arith, enough)) ∙ sym (rest-end j f (omega (arith, enough)))
fuel (suc k) zero f enough also = rest-end (suc k) f (omega (arith, also)) ∙ sym (rest-end zero f (omega (arith, also)))
fuel (suc k) (suc j) f enough also =
    elim (cases_lt f.passed 17556) [
      | inl below ↦
          let some = (step-bounds bus_rules f.processor).some in
          rest-step (suc k) k f refl below
          ∙ ap (sent_first (sent_in_step f.processor)) (fuel k j (after_step f) (omega (arith, enough, some)) (omega (arith, also, some)))
          ∙ sym (rest-step (suc j) j f refl below)
      | inr above ↦ rest-end (suc k) f above ∙ sym (rest-end (suc j) f above)
    ]

-- ---- after what is seen

abbrev then_rest : Seen → Rest
then_rest seen = sent_first seen.sent (rest_in seen.end)

twice : (bytes more : List ℕ) (rest : Rest) → sent_first (bytes ++ more) rest ≡ sent_first bytes (sent_first more rest)
twice bytes more rest = ap (λ (sent : List ℕ). record { end = rest.end; sent = sent }) (append_assoc bytes more rest.sent)

none_first : (rest : Rest) → sent_first [] rest ≡ rest
none_first rest = refl

before : (bytes : List ℕ) (seen : Seen) → then_rest (sent_before bytes seen) ≡ sent_first bytes (then_rest seen)
before bytes seen = twice bytes seen.sent (rest_in seen.end)

broken : (f : FrameState) → then_rest (broken_off f) ≡ rest_in f
broken f = none_first (rest_in f)

either : (b : Bool) (f : FrameState) (seen : Seen) → then_rest seen ≡ rest_in f → then_rest (if b then broken_off f else seen) ≡ rest_in f
either true f seen is = broken f
either false f seen is = is

seen_then : (k : ℕ) (f : FrameState) → 17556 ≤ f.passed + k → then_rest (seen_until k f) ≡ rest_in f
seen_then zero f enough = ap then_rest (seen-end zero f (omega (arith, enough))) ∙ none_first (rest_in f)
seen_then (suc k) f enough =
    elim (cases_lt f.passed 17556) [
      | inl below ↦
          let some = (step-bounds bus_rules f.processor).some in
          let rest = either (is_breakpoint (step_of bus_rules f.processor).stepped.kind) (after_step f) (seen_until k (after_step f)) (seen_then k (after_step f) (omega (arith, enough, some))) in
          ap then_rest (seen-step (suc k) k f (omega arith) below)
          ∙ before (sent_in_step f.processor) (if is_breakpoint (step_of bus_rules f.processor).stepped.kind then broken_off (after_step f) else seen_until k (after_step f))
          ∙ ap (sent_first (sent_in_step f.processor)) (rest ∙ fuel 17556 17555 (after_step f) (omega (arith, some)) (omega (arith, some)))
          ∙ sym (rest-step 17556 17555 f refl below)
      | inr above ↦ ap then_rest (seen-end (suc k) f above) ∙ none_first (rest_in f)
    ]

from : (breaks : Bool) (f : FrameState) → then_rest (seen_from breaks f) ≡ rest_in f
from true f = broken f
from false f = seen_then 17556 f (omega arith)

-- a part of a frame was played, in which these bytes were sent
pub rest_after : (breaks : Bool) (bytes : List ℕ) (f g : FrameState) → seen_in f ≡ sent_before bytes (seen_from breaks g) → rest_in f ≡ sent_first bytes (rest_in g)
rest_after breaks bytes f g seen =
    sym (seen_then 17556 f (omega arith)) ∙ ap then_rest seen ∙ before bytes (seen_from breaks g) ∙ ap (sent_first bytes) (from breaks g)

-- ---- the machine

abbrev ahead : Rest → Ahead BusState
ahead rest = record { after = rest.end.processor; overrun = rest.end.passed - 17556 }

none_due : (f : FrameState) → ahead (rest_until zero f) ≡ steps_until bus_rules zero f.passed f.processor
unfolding rest_until steps_until
none_due f = refl

as_steps : (k : ℕ) (f : FrameState) → ahead (rest_until k f) ≡ steps_until bus_rules k f.passed f.processor
as_steps zero f = none_due f
as_steps (suc k) f =
    elim (cases_lt f.passed 17556) [
      | inl below ↦
          ap ahead (rest-step (suc k) k f refl below)
          ∙ as_steps k (after_step f)
          ∙ sym (steps_until-step bus_rules (suc k) k f.passed f.processor (omega arith) below)
      | inr above ↦ ap ahead (rest-end (suc k) f above) ∙ sym (steps_until-end bus_rules (suc k) f.passed f.processor above)
    ]

pub frame_after : (buttons : ℕ) (m : MachineState) (f : FrameState) → (rest_in (begun_with buttons m)).end ≡ f → machine_after f ≡ frame_played buttons m
frame_after buttons m f end =
    ap machine_after (sym end)
    ∙ ap (λ (a : Ahead BusState). record { processor = a.after; overrun = a.overrun }) (as_steps 17556 (begun_with buttons m))

-- ---- whether it is over

never : (b : Bool) → IsTrue b → b ≡ false → ⊥
never true t e = cc
never false t e = cc

pub not_over : (b : Bool) (n : ℕ) → (17556 ≤ n → IsTrue b) → b ≡ false → n < 17556
not_over b n over e = elim (cases_lt n 17556) [ inl below ↦ below | inr above ↦ absurd (never b (over above) e) ]

pub is_over : (b : Bool) (n : ℕ) → (IsTrue b → 17556 ≤ n) → b ≡ true → 17556 ≤ n
is_over true n above e = above refl
is_over false n above e = absurd (cc)

-- ---- what is kept of a frame

abbrev pub debugger_as : MachineState → ℕ → List Executed → DebuggerState
debugger_as m size history = record { machine = m; size = size; history = history }

pub emptied : (m n : MachineState) (a b : ℕ) (history : List Executed) → m ≡ n → a ≡ b → history ≡ [] → debugger_as m a history ≡ debugger_as n b []
emptied m n a b history machine size none =
    ap (λ (x : MachineState). debugger_as x a history) machine
    ∙ ap (λ (x : ℕ). debugger_as n x history) size
    ∙ ap (λ (x : List Executed). debugger_as n b x) none

again : {X : Type 0} (f : X → X) (n : ℕ) (x : X) → f (iterate f n x) ≡ iterate f (suc n) x
again f zero x = refl
again f (suc n) x = again f n (f x)

pub once_more : {X : Type 0} (f : X → X) (n : ℕ) (x : X) → f (iterate f n x) ≡ iterate f (n + 1) x
once_more f n x = again f n x ∙ ap (λ (k : ℕ). iterate f k x) (sym (add-one n))

-- one frame more
pub and_frame : (buttons n : ℕ) (r now after : RunState) → now ≡ after_frames n buttons r → after ≡ after_frame buttons now → after ≡ after_frames (n + 1) buttons r
and_frame buttons n r now after so_far frame =
    frame ∙ ap (after_frame buttons) so_far ∙ again (after_frame buttons) n r ∙ ap (λ (k : ℕ). after_frames k buttons r) (sym (add-one n))

-- a frame of which a part was played: what is kept of its bytes, and where it ends
pub record IsPlaying (buttons : ℕ) (r : RunState) (sent : List ℕ) (f : FrameState) : Type 0 where
  pub bytes : keep_last most_sent (r.sent ++ (rest_in (begun_with buttons r.debugger.machine)).sent) ≡ keep_last most_sent (sent ++ (rest_in f).sent)
  pub end : (rest_in (begun_with buttons r.debugger.machine)).end ≡ (rest_in f).end

pub playing_on : (buttons : ℕ) (r : RunState) (old new bytes : List ℕ) (capacity : ℕ) (breaks : Bool) (f g : FrameState) → IsPlaying buttons r old f → capacity ≡ most_sent
    → new ≡ keep_last capacity (old ++ bytes) → seen_in f ≡ sent_before bytes (seen_from breaks g) → IsPlaying buttons r new g
playing_on buttons r old new bytes capacity breaks f g so_far room kept seen =
    let rest = rest_after breaks bytes f g seen in
    record {
      bytes = so_far.bytes ∙ ap (λ (x : Rest). keep_last most_sent (old ++ x.sent)) rest
          ∙ ap (keep_last most_sent) (sym (append_assoc old bytes (rest_in g).sent))
          ∙ sym (keep_last-again most_sent (old ++ bytes) (rest_in g).sent)
          ∙ ap (λ (n : ℕ). keep_last most_sent (keep_last n (old ++ bytes) ++ (rest_in g).sent)) (sym room)
          ∙ ap (λ (bs : List ℕ). keep_last most_sent (bs ++ (rest_in g).sent)) (sym kept);
      end = so_far.end ∙ ap (λ (x : Rest). x.end) rest;
    }

pub played : (buttons : ℕ) (r : RunState) (sent : List ℕ) (f : FrameState) (d : DebuggerState) (counted : Played) → IsPlaying buttons r sent f → 17556 ≤ f.passed → length sent ≤ most_sent
    → d ≡ record { machine = machine_after f; size = r.debugger.size; history = [] } → counted ≡ with_frame (frame_cycles r.debugger.machine (machine_after f)) r.played
    → record { debugger = d; sent = sent; played = counted } ≡ after_frame buttons r
played buttons r sent f d counted playing above kept is count =
    let end = over f above in
    let machine = frame_after buttons r.debugger.machine f (playing.end ∙ ap (λ (x : Rest). x.end) end) in
    let bytes : sent ≡ keep_last most_sent (r.sent ++ (rest_in (begun_with buttons r.debugger.machine)).sent) =
    sym (playing.bytes ∙ ap (λ (x : Rest). keep_last most_sent (sent ++ x.sent)) end ∙ ap (keep_last most_sent) (append-nil sent) ∙ keep_last-all most_sent sent kept) in
    ap (λ (e : DebuggerState). run_as e sent counted) (is ∙ ap (λ (m : MachineState). record { machine = m; size = r.debugger.size; history = [] }) machine)
    ∙ ap (λ (bs : List ℕ). run_as (record { machine = frame_played buttons r.debugger.machine; size = r.debugger.size; history = [] }) bs counted) bytes
    ∙ ap (run_as (after_frame buttons r).debugger (after_frame buttons r).sent) (count ∙ ap (λ (m : MachineState). with_frame (frame_cycles r.debugger.machine m) r.played) machine)
  where
    run_as : DebuggerState → List ℕ → Played → RunState
    run_as e bs c = record { debugger = e; sent = bs; played = c }
