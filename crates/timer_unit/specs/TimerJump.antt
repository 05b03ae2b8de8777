-- A timer after n M-cycles at once, for private functions alone: how often its signal falls, and TIMA after that many
-- falls.
use Rattle.std.specs.Prelude.{ℕ, ◌+◌, ◌-◌, ◌*◌, ◌/◌, ◌%◌, ◌^◌, true, nat_le, nat_lt, if◌then◌else◌}
use Rattle.timer_unit.specs.Timer.{TimerAndRequest, selected_bit}

-- TIMA after f falls
abbrev pub with_falls : ℕ → TimerAndRequest → TimerAndRequest
with_falls f s =
    if nat_lt (s.timer.tima + f) 256
    then (record { timer = record s.timer { tima = s.timer.tima + f }; requested = s.requested })
    else (record { timer = record s.timer { tima = s.timer.tma + (s.timer.tima + f - 256) % (256 - s.timer.tma) }; requested = true })

-- the counter after n M-cycles
abbrev pub grown : ℕ → TimerAndRequest → TimerAndRequest
grown n s = record { timer = record s.timer { counter = (s.timer.counter + 4 * n) % 65536 }; requested = s.requested }

-- how often bit k falls in n M-cycles
abbrev pub falls_of_bit : ℕ → ℕ → ℕ → ℕ
falls_of_bit k c n = (c % (2 * 2 ^ k) + 4 * n) / (2 * 2 ^ k)

abbrev pub falls_in : ℕ → ℕ → ℕ → ℕ
falls_in tac c n = if nat_le 4 tac then falls_of_bit (selected_bit tac) c n else 0

abbrev pub jump : ℕ → TimerAndRequest → TimerAndRequest
jump n s = with_falls (falls_in s.timer.tac s.timer.counter n) (grown n s)

-- after how many M-cycles bit k falls
abbrev pub due_of_bit : ℕ → ℕ → ℕ
due_of_bit k c = (2 * 2 ^ k - c % (2 * 2 ^ k) + 3) / 4
