-- What the lines of SAVE.time say.
use Rattle.std.specs.Prelude.{ℕ, List, Bool, false, ◌||◌, max, nat_le, if◌then◌else◌}
use Rattle.std.specs.List.{fold}
use Rattle.cartridge_clock.specs.declared.until.Line.{Line}

-- the greatest time of all lines
abbrev pub greatest : List Line → ℕ
greatest lines = fold (λ (most : ℕ) (line : Line). max most line.until) 0 lines

-- the greatest of those that speak of a SAVE with so many inputs
abbrev pub greatest_fitting : (count : ℕ) → List Line → ℕ
greatest_fitting count lines = fold (λ (most : ℕ) (line : Line). if nat_le line.count count then max most line.until else most) 0 lines

-- whether any speaks of it
abbrev pub fits : (count : ℕ) → List Line → Bool
fits count lines = fold (λ (found : Bool) (line : Line). found || nat_le line.count count) false lines

-- until when the clock of a SAVE with so many inputs was given; of one of which no line speaks, the greatest time of all
abbrev pub until_by : List Line → (count : ℕ) → ℕ
until_by lines count = if fits count lines then greatest_fitting count lines else greatest lines

-- the greatest count of all lines
abbrev pub most_inputs : List Line → ℕ
most_inputs lines = fold (λ (most : ℕ) (line : Line). max most line.count) 0 lines
