-- The timer of a bus, which is given its M-cycles late: for private functions alone.
use Rattle.std.specs.Prelude.{ℕ, ◌-◌}
use Rattle.std.specs.Fn.{iterate}
use Rattle.timer_unit.specs.Timer.{TimerAndRequest, tick}
use Rattle.memory_map.specs.declared.late_timer.LateTimer.{LateTimer}

-- the timer as it was
abbrev pub running : LateTimer → TimerAndRequest
running l = record { timer = l.timer; requested = l.requested }

-- as it is at this M-cycle of the clock
abbrev pub up_to : ℕ → LateTimer → TimerAndRequest
up_to now l = iterate tick (now - l.at) (running l)

-- a timer that has been given all its M-cycles up to this one of the clock
abbrev pub caught_up_at : ℕ → TimerAndRequest → LateTimer
caught_up_at now s = record { timer = s.timer; requested = s.requested; at = now }
