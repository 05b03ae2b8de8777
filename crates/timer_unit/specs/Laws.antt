-- Laws of the timer and the serial port that public functions state.
use Rattle.std.specs.Prelude.{◌≡◌, ℕ, ◌+◌, ◌*◌, ◌%◌, ◌≤◌, Bool, ◌||◌, ◌==◌, if◌then◌else◌}
use Rattle.std.specs.Fn.{iterate}
use Rattle.timer_unit.specs.declared.timer.TimerState.{TimerState}
use Rattle.timer_unit.specs.declared.serial.SerialState.{SerialState}
use Rattle.timer_unit.specs.Timer as timer
use Rattle.timer_unit.specs.Serial as serial

abbrev pub TimerRequestIsAdded : Type 0
TimerRequestIsAdded = (before : Bool) (n : ℕ) (t : TimerState) →
    iterate timer.tick n (record { timer = t; requested = before })
    ≡ record { timer = (timer.ticks n t).timer; requested = before || (timer.ticks n t).requested }

abbrev pub SerialRequestIsAdded : Type 0
SerialRequestIsAdded = (before : Bool) (n : ℕ) (s : SerialState) →
    iterate serial.tick n (record { serial = s; requested = before })
    ≡ record { serial = (serial.ticks n s).serial; requested = before || (serial.ticks n s).requested }

-- the M-cycles between two counts of TIMA: 4,096, 262,144, 65,536 and 16,384 counts a second of 1,048,576 M-cycles
abbrev pub cycles_per_count : ℕ → ℕ
cycles_per_count tac = if tac % 4 == 0 then 256 else (if tac % 4 == 1 then 4 else (if tac % 4 == 2 then 16 else 64))

-- in that many M-cycles a running timer counts once, and the counter goes on
abbrev pub TimerCountsAtItsRate : Type 0
TimerCountsAtItsRate = (t : TimerState) → timer.IsLegalTimer t → 4 ≤ t.tac →
    timer.ticks (cycles_per_count t.tac) t
    ≡ timer.increment_tima (timer.unrequested (record t { counter = (t.counter + 4 * cycles_per_count t.tac) % 65536 }))
