-- A cartridge's clock as C holds it.
use Rattle.std.specs.Prelude.{◌≡◌, ℕ, List, ◌∷◌, Option, None, Some, ◌==◌, length, take, if◌then◌else◌}
use Rattle.cartridge_clock.specs.declared.until.Line.{Line}
use Rattle.cartridge_clock.specs.declared.giving.Clock.{Clock}
use Rattle.cartridge_clock.specs.declared.giving.Answer.{Answer}
use Rattle.cartridge_clock.specs.declared.giving.Answer.TheVariants.{Give, Leave}
use Rattle.cartridge_clock.specs.declared.opening.Away.{Away}
use Rattle.cartridge_clock.specs.declared.opening.Away.TheVariants.{Nothing, Behind, FarBehind, Before, FarBefore}
use Rattle.cartridge_clock.specs.declared.opening.Played.{Played}
use Rattle.cartridge_clock.specs.declared.opening.Played.TheVariants.{Here, Older, Elsewhere}
use Rattle.cartridge_clock.specs.Openings.{away_by, played_by}
use Rattle.cartridge_clock.specs.Texts.{text_of, IsTextOf}
use Rattle.c_interface.specs.declared.clock_exports.HeldLine.{HeldLine}
use Rattle.c_interface.specs.declared.clock_exports.HeldClock.{HeldClock}
use Rattle.c_interface.specs.declared.clock_exports.Found.{Found}

abbrev pub line_of : HeldLine → Line
line_of line = record { count = line.count; until = line.until }

abbrev pub claim_in : (is_claimed : ℕ) → HeldLine → Option Line
claim_in is_claimed line = if is_claimed == 0 then None else Some (line_of line)

abbrev pub clock_of : HeldClock → Clock
clock_of held = record { until = held.until; opened = held.opened; began = held.began; written = line_of held.written; claimed = claim_in held.is_claimed held.claimed }

-- what the player says of the time away: 1 and 2; nothing
abbrev pub answer_of : ℕ → Option Answer
answer_of answer = if answer == 1 then Some Give else (if answer == 2 then Some Leave else None)

abbrev pub away_kind : Away → ℕ
away_kind Nothing = 0
away_kind (Behind seconds) = 1
away_kind (FarBehind seconds) = 2
away_kind (Before seconds) = 3
away_kind (FarBefore seconds) = 4

abbrev pub away_seconds : Away → ℕ
away_seconds Nothing = 0
away_seconds (Behind seconds) = seconds
away_seconds (FarBehind seconds) = seconds
away_seconds (Before seconds) = seconds
away_seconds (FarBefore seconds) = seconds

abbrev pub played_kind : Played → ℕ
played_kind Here = 0
played_kind Older = 1
played_kind Elsewhere = 2

-- what is found of a SAVE with so many inputs at this date
abbrev pub found_of : List Line → (count between date : ℕ) → Found
found_of lines count between date = record {
  lines = length lines;
  away = away_kind (away_by lines count date);
  seconds = away_seconds (away_by lines count date);
  played = played_kind (played_by lines count between);
}

-- a text was read, and this holds of its lines
pub record IsRead (text : List ℕ) (Holds : List Line → Type 0) : Type 0 where
  pub lines : List Line
  pub is : IsTextOf lines text
  pub holds : Holds lines

-- what is to be written: nothing, or this line in front of others, whose text is so long and stands in these bytes
abbrev pub IsToWrite : Option Line → (others : List Line) → (long : ℕ) → Line → (bytes : List ℕ) → Type 0
IsToWrite None others long line bytes = long ≡ 0
IsToWrite (Some one) others long line bytes = (line ≡ one) × (take long bytes ≡ text_of (one ∷ others))
