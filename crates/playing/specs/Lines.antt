-- The lines of a report.
use Rattle.std.specs.Prelude.{ℕ, List, [], ◌∷◌, ◌++◌, codes, decimal}

-- a line of a report, and the count of inputs that it tells
pub record Line : Type 0 where
  pub told : ℕ
  pub text : List ℕ

abbrev pub resumed_line : ℕ → Line
resumed_line count = record { told = count; text = codes "resumed " ++ (decimal count ++ codes "\n") }

abbrev pub saved_line : ℕ → Line
saved_line count = record { told = count; text = codes "saved " ++ (decimal count ++ codes "\n") }

-- the lines one after another
abbrev pub texts : List Line → List ℕ
texts [] = []
texts (line ∷ lines) = line.text ++ texts lines
