-- How much of the time away is due as a game is opened.
use Rattle.std.proofs.Common.{◌≡◌, ℕ, ◌+◌, ◌-◌, ◌*◌, ◌≤◌, min, max, List, [], ◌∷◌, Bool, true, false, cond, nat_lt, Option, None, Some, arith}
use Rattle.cartridge_clock.specs.declared.giving.TheConstants.{LAST_SECOND, MOST_SECONDS, YEAR}
use Rattle.cartridge_clock.specs.declared.giving.Answer.{Answer}
use Rattle.cartridge_clock.specs.declared.giving.Answer.TheVariants.{Give, Leave}
use Rattle.cartridge_clock.specs.declared.until.Line.{Line}
use Rattle.cartridge_clock.specs.Clocks.{second_of, found_until, until_from, start_from, opened, due_at, away_due}

found_last : (lines : List Line) (count date : ℕ) → found_until lines count (second_of date) ≤ LAST_SECOND
found_last [] count date = omega arith
found_last (line ∷ lines) count date = omega arith

open_year : (found date elapsed : ℕ) (b : Bool) → elapsed ≡ 0 → found ≤ LAST_SECOND
    → min (second_of (cond b (found * 1000) (max date (found * 1000)) + elapsed) - found) MOST_SECONDS ≡ cond b 0 (min (second_of date - found) MOST_SECONDS)
open_year found date elapsed true e h = omega arith
open_year found date elapsed false e h = omega arith

open_due : (found date elapsed : ℕ) (answer : Option Answer) → elapsed ≡ 0 → found ≤ LAST_SECOND
    → min (second_of (start_from found (second_of date) date answer + elapsed) - until_from found (second_of date) answer) MOST_SECONDS ≡ away_due found (second_of date) answer
open_due found date elapsed None e h = open_year found date elapsed (nat_lt YEAR (second_of date - found)) e h
open_due found date elapsed (Some Give) e h = omega arith
open_due found date elapsed (Some Leave) e h = omega arith

pub opened_due : (lines : List Line) (count date moment : ℕ) (answer : Option Answer)
    → due_at (opened lines count date moment answer) moment ≡ away_due (found_until lines count (second_of date)) (second_of date) answer
opened_due lines count date moment answer = open_due (found_until lines count (second_of date)) date (moment - moment) answer (omega arith) (found_last lines count date)
