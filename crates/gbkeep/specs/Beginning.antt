-- The line of a new game, or of a new recording, and why it is not written.
use Rattle.std.specs.Prelude.{ℕ, List, codes, Option}
use Rattle.std.specs.Io.KnownBytes.{Keeps}
use Rattle.exact_text.specs.Written.{AppendsProperPrefix}
use Rattle.refusals.specs.declared.refusal.Refusal.{Refusal}
use Rattle.refusals.specs.declared.refusal.Refusal.TheVariants.{Device, Output}

abbrev pub begun_line : List ℕ
begun_line = codes "begun 0\n"

-- the file did not get its name, and nothing went out; or the line was cut short
abbrev pub IsUntold : (before since : Option (List ℕ)) → Refusal → Type 0
IsUntold before since (Device fault) = Keeps before since
IsUntold before since Output = AppendsProperPrefix before since begun_line
IsUntold before since fault = ⊥
