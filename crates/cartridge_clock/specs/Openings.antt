-- What is to be asked and told where a game is opened.
use Rattle.std.specs.Prelude.{ℕ, ◌-◌, List, [], ◌∷◌, not, nat_lt, if◌then◌else◌}
use Rattle.cartridge_clock.specs.declared.until.Line.{Line}
use Rattle.cartridge_clock.specs.declared.giving.TheConstants.{YEAR}
use Rattle.cartridge_clock.specs.declared.opening.TheConstants.{NO_FAULT}
use Rattle.cartridge_clock.specs.declared.opening.Away.{Away}
use Rattle.cartridge_clock.specs.declared.opening.Away.TheVariants.{Nothing, Behind, FarBehind, Before, FarBefore}
use Rattle.cartridge_clock.specs.declared.opening.Played.{Played}
use Rattle.cartridge_clock.specs.declared.opening.Played.TheVariants.{Here, Older, Elsewhere}
use Rattle.cartridge_clock.specs.Lines.{fits, most_inputs}
use Rattle.cartridge_clock.specs.Clocks.{second_of, found_until}

-- how far now is from the second that was found
abbrev pub away_of : (found now : ℕ) → Away
away_of found now =
    if nat_lt YEAR (now - found) then FarBehind (now - found)
    else (if nat_lt found now then Behind (now - found)
    else (if nat_lt YEAR (found - now) then FarBefore (found - now)
    else (if nat_lt NO_FAULT (found - now) then Before (found - now)
    else Nothing)))

abbrev pub away_by : List Line → (count date : ℕ) → Away
away_by lines count date = away_of (found_until lines count (second_of date)) (second_of date)

-- fewer inputs than each line speaks of, or more than come between two writes beyond all of them
abbrev pub played_by : List Line → (count between : ℕ) → Played
played_by [] count between = Here
played_by (line ∷ lines) count between =
    if not (fits count (line ∷ lines)) then Older
    else (if nat_lt between (count - most_inputs (line ∷ lines)) then Elsewhere
    else Here)
