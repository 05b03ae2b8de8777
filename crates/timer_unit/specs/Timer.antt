-- The timer: Pan Docs, "Timer and Divider Registers", "Timer obscure behaviour" and "Power up sequence". The interrupt is
-- requested, and TIMA reloaded, in the M-cycle of the overflow (fixed profile).
use Rattle.std.specs.Prelude.{ℕ, ◌+◌, ◌/◌, ◌%◌, ◌^◌, ◌<◌, Bool, true, false, ◌&&◌, not, ◌==◌, nat_le, if◌then◌else◌}
use Rattle.std.specs.Fn.{iterate}
use Rattle.timer_unit.specs.declared.timer.TimerState.{TimerState}

pub record IsLegalTimer (t : TimerState) : Type 0 where
  pub counter : t.counter < 65536
  pub tima : t.tima < 256
  pub tma : t.tma < 256
  pub tac : t.tac < 8

-- DIV reads AB and TAC F8
abbrev pub timer_at_power_on : TimerState
timer_at_power_on = record { counter = 0xAB00; tima = 0; tma = 0; tac = 0 }

-- the bit of the counter that the two low bits of TAC select
abbrev pub selected_bit : ℕ → ℕ
selected_bit tac = if tac % 4 == 0 then 9 else (if tac % 4 == 1 then 3 else (if tac % 4 == 2 then 5 else 7))

-- bit k of n
abbrev pub bit : ℕ → ℕ → Bool
bit n k = n / 2 ^ k % 2 == 1

-- the signal whose falls TIMA counts: bit 2 of TAC and the selected bit of the counter
abbrev pub signal : ℕ → ℕ → Bool
signal tac counter = nat_le 4 tac && bit counter (selected_bit tac)

-- a timer, and whether it has requested its interrupt
pub record TimerAndRequest : Type 0 where
  pub timer : TimerState
  pub requested : Bool

abbrev pub unrequested : TimerState → TimerAndRequest
unrequested t = record { timer = t; requested = false }

-- TIMA counts one: from FF it becomes TMA and the interrupt is requested
abbrev pub increment_tima : TimerAndRequest → TimerAndRequest
increment_tima s =
    if s.timer.tima == 255
    then record { timer = record s.timer { tima = s.timer.tma }; requested = true }
    else record { timer = record s.timer { tima = s.timer.tima + 1 }; requested = s.requested }

-- the counter and TAC become these: a fall of the signal counts
abbrev pub with_counter_and_tac : ℕ → ℕ → TimerAndRequest → TimerAndRequest
with_counter_and_tac counter tac s =
    let changed : TimerAndRequest = record { timer = record s.timer { counter = counter; tac = tac }; requested = s.requested } in
    if signal s.timer.tac s.timer.counter && not (signal tac counter) then increment_tima changed else changed

-- one M-cycle
abbrev pub tick : TimerAndRequest → TimerAndRequest
tick s = with_counter_and_tac ((s.timer.counter + 4) % 65536) s.timer.tac s

-- n M-cycles of a timer that has requested nothing
abbrev pub ticks : ℕ → TimerState → TimerAndRequest
ticks n t = iterate tick n (unrequested t)

-- the next M-cycle is one in which the signal falls
abbrev pub signal_falls : TimerAndRequest → Bool
signal_falls s = signal s.timer.tac s.timer.counter && not (signal s.timer.tac ((s.timer.counter + 4) % 65536))

-- DIV is written
abbrev pub div_written : TimerState → TimerAndRequest
div_written t = with_counter_and_tac 0 t.tac (unrequested t)

-- TAC is written: its three low bits are kept
abbrev pub tac_written : ℕ → TimerState → TimerAndRequest
tac_written value t = with_counter_and_tac t.counter (value % 8) (unrequested t)

-- the bits of IF for a request: bit 2
abbrev pub timer_request : Bool → ℕ
timer_request requested = if requested then 4 else 0
