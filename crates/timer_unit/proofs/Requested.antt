-- What a unit does in n M-cycles does not depend on whether its interrupt was requested before.
use Rattle.std.proofs.Common.{◌≡◌, Bool, true, false, cond, eqb, refl, sym, ap, ◌∙◌, ◌+◌, ◌-◌, ◌%◌}
use Rattle.std.specs.Prelude.{◌||◌, ◌&&◌, not}
use Rattle.std.proofs.Math.Bool.{or-false}
use Rattle.std.specs.Fn.{iterate}
use Rattle.timer_unit.specs.declared.timer.TimerState.{TimerState}
use Rattle.timer_unit.specs.declared.serial.SerialState.{SerialState}
use Rattle.timer_unit.specs.Timer as timer
use Rattle.timer_unit.specs.Serial as serial
use Rattle.timer_unit.specs.Laws.{TimerRequestIsAdded, SerialRequestIsAdded}
use Rattle.repeated_steps.proofs.Iterates.{iterate-along}

or_true : (r : Bool) → (r || true) ≡ true
or_true true = refl
or_true false = refl

abbrev also_timer : Bool → timer.TimerAndRequest → timer.TimerAndRequest
also_timer r s = record s { requested = r || s.requested }

abbrev moved : timer.TimerAndRequest → timer.TimerAndRequest
moved s = record { timer = record s.timer { counter = (s.timer.counter + 4) % 65536 }; requested = s.requested }

abbrev counted : Bool → timer.TimerAndRequest → timer.TimerAndRequest
counted b s = cond b (record { timer = record s.timer { tima = s.timer.tma }; requested = true }) (record { timer = record s.timer { tima = s.timer.tima + 1 }; requested = s.requested })

abbrev reloaded : Bool → timer.TimerAndRequest → timer.TimerAndRequest
reloaded q s = record { timer = record (moved s).timer { tima = s.timer.tma }; requested = q }

timer_tick : (r : Bool) (s : timer.TimerAndRequest) → also_timer r (timer.tick s) ≡ timer.tick (also_timer r s)
timer_tick r s =
    let p = s.timer in
    elim (timer.signal p.tac p.counter && not (timer.signal p.tac ((p.counter + 4) % 65536)))
    as (λ b. also_timer r (cond b (timer.increment_tima (moved s)) (moved s)) ≡ cond b (timer.increment_tima (moved (also_timer r s))) (moved (also_timer r s))) [
      | true ↦ elim (eqb p.tima 255) as (λ b. also_timer r (counted b (moved s)) ≡ counted b (moved (also_timer r s))) [ true ↦ ap (λ (q : Bool). reloaded q s) (or_true r) | false ↦ refl ]
      | false ↦ refl
    ]

abbrev timer_with : TimerState → Bool → timer.TimerAndRequest
timer_with t r = record { timer = t; requested = r }

pub timer_request_added : TimerRequestIsAdded
timer_request_added before n t =
    ap (λ (q : Bool). iterate timer.tick n (timer_with t q)) (sym (or-false before))
    ∙ sym (iterate-along timer.tick timer.tick (also_timer before) (timer_tick before) n (timer_with t false))

abbrev also_serial : Bool → serial.SerialAndRequest → serial.SerialAndRequest
also_serial r s = record s { requested = r || s.requested }

abbrev sent : Bool → serial.SerialAndRequest → serial.SerialAndRequest
sent b s = cond b (record { serial = record { sb = 255; sc = s.serial.sc % 128; cycles_left = 0 }; requested = true }) (record { serial = record s.serial { cycles_left = s.serial.cycles_left - 1 }; requested = s.requested })

serial_tick : (r : Bool) (s : serial.SerialAndRequest) → also_serial r (serial.tick s) ≡ serial.tick (also_serial r s)
serial_tick r s =
    elim (eqb s.serial.cycles_left 0) as (λ b. also_serial r (cond b s (sent (eqb s.serial.cycles_left 1) s)) ≡ cond b (also_serial r s) (sent (eqb s.serial.cycles_left 1) (also_serial r s))) [
      | true ↦ refl
      | false ↦ elim (eqb s.serial.cycles_left 1) as (λ b. also_serial r (sent b s) ≡ sent b (also_serial r s)) [ true ↦ ap (λ (q : Bool). record { serial = (sent true s).serial; requested = q }) (or_true r) | false ↦ refl ]
    ]

abbrev serial_with : SerialState → Bool → serial.SerialAndRequest
serial_with s r = record { serial = s; requested = r }

pub serial_request_added : SerialRequestIsAdded
serial_request_added before n s =
    ap (λ (q : Bool). iterate serial.tick n (serial_with s q)) (sym (or-false before))
    ∙ sym (iterate-along serial.tick serial.tick (also_serial before) (serial_tick before) n (serial_with s false))
