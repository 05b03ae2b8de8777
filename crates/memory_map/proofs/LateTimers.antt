-- A timer that is given its M-cycles late.
use Rattle.std.proofs.Common.{◌≡◌, ℕ, ◌+◌, ◌-◌, ◌≤◌, Bool, refl, sym, ap, ◌∙◌, arith}
use Rattle.std.specs.Prelude.{◌||◌, not, nat_eq}
use Rattle.std.specs.Fn.{iterate}
use Rattle.repeated_steps.proofs.Iterates.{iterate-add}
use Rattle.timer_unit.specs.Timer as timer
use Rattle.timer_unit.specs.declared.timer.TimerState.{TimerState}
use Rattle.timer_unit.proofs.Requested.{timer_request_added}
use Rattle.memory_map.specs.declared.late_timer.LateTimer.{LateTimer}
use Rattle.memory_map.specs.LateTimer.{running, up_to, caught_up_at}
use Rattle.memory_map.proofs.UnitRuns.{timer_requested}

-- a timer that is not late
pub not_late : (now : ℕ) (l : LateTimer) → l.at ≡ now → up_to now l ≡ running l
not_late now l e =
    let none : now - l.at ≡ 0 = omega (arith, e) in
    ap (λ (k : ℕ). iterate timer.tick k (running l)) none

pub caught_up : (now : ℕ) (l : LateTimer) (s : timer.TimerAndRequest) → l ≡ caught_up_at now s → up_to now l ≡ s
caught_up now l s e = ap (up_to now) e ∙ not_late now (caught_up_at now s) refl

-- n M-cycles later it is n M-cycles on
pub later : (now n : ℕ) (l : LateTimer) → l.at ≤ now → up_to (now + n) l ≡ iterate timer.tick n (up_to now l)
later now n l le =
    let more : now + n - l.at ≡ now - l.at + n = omega (arith, le) in
    ap (λ (k : ℕ). iterate timer.tick k (running l)) more ∙ iterate-add timer.tick (now - l.at) n (running l)

abbrev timer_with : TimerState → Bool → timer.TimerAndRequest
timer_with t r = record { timer = t; requested = r }

-- what a pass leaves
pub passed : (n : ℕ) (s : timer.TimerAndRequest) (t : TimerState) (bits : ℕ) → t ≡ (timer.ticks n s.timer).timer → bits ≡ timer.timer_request (timer.ticks n s.timer).requested
    → timer_with t (s.requested || not (nat_eq bits 0)) ≡ iterate timer.tick n s
passed n s t bits e f =
    let run = timer.ticks n s.timer in
    let g : not (nat_eq bits 0) ≡ run.requested = ap (λ (k : ℕ). not (nat_eq k 0)) f ∙ timer_requested run.requested in
    ap (λ (u : TimerState). timer_with u (s.requested || not (nat_eq bits 0))) e ∙ ap (λ (q : Bool). timer_with run.timer (s.requested || q)) g
    ∙ sym (timer_request_added s.requested n s.timer)
