-- Which seconds are due to a cartridge's clock, and what is written before they are given.
use Rattle.std.specs.Prelude.{ℕ, ◌+◌, ◌-◌, ◌*◌, ◌/◌, ◌^◌, ◌||◌, ◌==◌, min, max, List, [], ◌∷◌, Option, None, Some, nat_le, nat_lt, if◌then◌else◌}
use Rattle.cartridge_clock.specs.declared.giving.TheConstants.{LAST_SECOND, MOST_SECONDS, YEAR}
use Rattle.cartridge_clock.specs.declared.until.Line.{Line}
use Rattle.cartridge_clock.specs.declared.giving.Clock.{Clock}
use Rattle.cartridge_clock.specs.declared.giving.Answer.{Answer}
use Rattle.cartridge_clock.specs.declared.giving.Answer.TheVariants.{Give, Leave}
use Rattle.cartridge_clock.specs.Lines.{until_by}

-- the second of a date in milliseconds
abbrev pub second_of : ℕ → ℕ
second_of date = min (date / 1000) LAST_SECOND

-- ---- a game is opened

-- until when the clock was given by the lines; until now where there are none
abbrev pub found_until : List Line → (count now : ℕ) → ℕ
found_until [] count now = now
found_until (line ∷ lines) count now = min (until_by (line ∷ lines) count) LAST_SECOND

-- time away that is left is skipped
abbrev pub until_from : (found now : ℕ) → Option Answer → ℕ
until_from found now None = found
until_from found now (Some Give) = found
until_from found now (Some Leave) = max found now

-- the session counts from the date on, but never from before what was given; nor from a date more than a year later that nobody has confirmed
abbrev pub start_from : (found now date : ℕ) → Option Answer → ℕ
start_from found now date None = if nat_lt YEAR (now - found) then found * 1000 else max date (found * 1000)
start_from found now date (Some answer) = max date (found * 1000)

abbrev pub opened : List Line → (count date moment : ℕ) → Option Answer → Clock
opened lines count date moment answer =
    let now = second_of date in
    let found = found_until lines count now in
    let until = until_from found now answer in
    record { until = until; opened = start_from found now date answer; began = moment; written = record { count = count; until = until }; claimed = None }

-- how much of the time away is due as a game is opened: all of it, but none that is left, or that is more than a year and nobody has answered for;
-- at a date before the time until which the clock was given there is none
abbrev pub away_due : (found now : ℕ) → Option Answer → ℕ
away_due found now None = if nat_lt YEAR (now - found) then 0 else min (now - found) MOST_SECONDS
away_due found now (Some Give) = min (now - found) MOST_SECONDS
away_due found now (Some Leave) = 0

-- ---- seconds are given

-- the second that a session has come to
abbrev pub session_second : Clock → (moment : ℕ) → ℕ
session_second clock moment = second_of (clock.opened + (moment - clock.began))

abbrev pub due_at : Clock → (moment : ℕ) → ℕ
due_at clock moment = min (session_second clock moment - clock.until) MOST_SECONDS

-- the line that says of the next input that it gives what is due
abbrev pub claim_of : Clock → (count moment : ℕ) → Option Line
claim_of clock count moment =
    if due_at clock moment == 0 || (nat_le (2 ^ 64 - 1) count || nat_lt LAST_SECOND clock.until) then None
    else Some (record { count = count + 1; until = clock.until + due_at clock moment })

-- what was claimed before and not given is forgotten
abbrev pub claiming : Clock → Clock
claiming clock = record clock { claimed = None }

abbrev pub claimed_by : Clock → Line → Clock
claimed_by clock line = record clock { claimed = Some line }

-- how many seconds the claim gives
abbrev pub seconds_of : Clock → Option Line → ℕ
seconds_of clock None = 0
seconds_of clock (Some line) = min (line.until - clock.until) MOST_SECONDS

abbrev pub to_give : Clock → ℕ
to_give clock = seconds_of clock clock.claimed

abbrev pub given_by : Clock → Option Line → Clock
given_by clock None = clock
given_by clock (Some line) = record clock { until = clock.until + seconds_of clock (Some line); written = line; claimed = None }

abbrev pub giving : Clock → Clock
giving clock = given_by clock clock.claimed

-- ---- without seconds

abbrev pub note_of : Clock → (saved : ℕ) → Option Line
note_of clock saved = if nat_le saved clock.written.count || nat_lt clock.until clock.written.until then None else Some (record { count = saved; until = clock.until })

abbrev pub noted_by : Clock → Line → Clock
noted_by clock line = record clock { written = line }

-- the machine of a state is gone on with, whose clock had been given until then
abbrev pub gone_back : Clock → (until : ℕ) → Clock
gone_back clock until = record clock { until = until; claimed = None }
