-- What was written of a script before its last run; a reader needs none of this.
use Rattle.std.specs.Prelude.{◌≡◌, ◌++◌, ℕ, List, Option}
use Rattle.std.specs.Io.KnownBytes.{Appends}
use Rattle.exact_text.specs.Written.{AppendsProperPrefix}
use Rattle.machine.specs.Machine.{Input}
use Rattle.replaying.specs.Script.{lines_after}
use Rattle.replaying.specs.declared.run.Run.{Run}

abbrev pub lines_behind : Run → List Input → List ℕ
lines_behind run inputs = lines_after run.buttons run.times inputs

-- of the lines of these inputs, whatever follows, all were written that the last run is not part of
pub record HasWritten (before after : Run) (inputs : List Input) (old new : Option (List ℕ)) : Type 0 where
  pub text : List ℕ
  pub appends : Appends old new text
  pub is : (rest : List Input) → lines_behind before (inputs ++ rest) ≡ text ++ lines_behind after rest

-- a proper prefix of the lines was written, whatever follows
pub record HasStopped (before : Run) (inputs : List Input) (old new : Option (List ℕ)) : Type 0 where
  pub prefix : (rest : List Input) → AppendsProperPrefix old new (lines_behind before (inputs ++ rest))
