-- What a debugger reads and answers, and when it is refused.
use Rattle.std.specs.Prelude.{◌≡◌, ◌⊎◌, ◌^◌, ◌-◌, ◌++◌, ◌∷◌, ℕ, true, List, [], length, Option, None}
use Rattle.std.specs.Io.KnownBytes.{Appends, IsAtEnd}
use Rattle.exact_text.specs.Written.{AppendsProperPrefix}
use Rattle.input_lines.specs.Given.{Given, HasReadGiven, IsUnfinished}
use Rattle.debugging.specs.Orders.{asked, restore_of, state_order_of}
use Rattle.debugging.specs.Run.{RunState}
use Rattle.debugging.specs.KeptStates.{with_none_kept}
use Rattle.debugging.specs.Answers.{after_lines, answers, takes_memory}
use Rattle.debugging.specs.declared.error.DebugError.{DebugError}
use Rattle.debugging.specs.declared.error.DebugError.TheVariants.{Input, Output, Memory}

-- what goes in and out: what an input has left, and what an output holds, before and since
pub record Exchange : Type 0 where
  pub unread : Option (List ℕ)
  pub left : Option (List ℕ)
  pub before : Option (List ℕ)
  pub since : Option (List ℕ)

-- lines are counted from 1
abbrev pub answers_of : RunState → List Given → List ℕ
answers_of r given = answers 1 given (with_none_kept r)

-- the most lines that are read
abbrev pub most_lines : ℕ
most_lines = 2 ^ 64 - 2

-- All lines of the input were read, each with the bytes that it asks for, or as many as are, and each was answered.
pub record HasAnsweredAll (r : RunState) (io : Exchange) : Type 0 where
  pub given : List Given
  pub more : List ℕ
  pub read : HasReadGiven asked given more io.unread io.left
  pub ends : ((more ≡ []) × IsAtEnd io.left) ⊎ (length given ≡ most_lines)
  pub answered : Appends io.before io.since (answers_of r given)

-- a read failed after these lines, in the middle of a line or of the bytes behind it, and each of them was answered
pub record HasAnsweredSome (r : RunState) (io : Exchange) : Type 0 where
  pub given : List Given
  pub rest : List ℕ
  pub unfinished : IsUnfinished asked rest
  pub read : HasReadGiven asked given rest io.unread io.left
  pub answered : Appends io.before io.since (answers_of r given)

-- a write failed: of the answers to the lines that were read a proper prefix went out
pub record HasBrokenOff (r : RunState) (io : Exchange) : Type 0 where
  pub given : List Given
  pub more : List ℕ
  pub read : HasReadGiven asked given more io.unread io.left
  pub answered : AppendsProperPrefix io.before io.since (answers_of r given)

-- There was no memory for a line that takes some, be it the first state under its number, the power switch or a profile: the lines before it were
-- done, and each of them was answered, and nothing more went out.
pub record HasLackedMemory (r : RunState) (io : Exchange) : Type 0 where
  pub given : List Given
  pub last : Given
  pub plain : restore_of last.line ≡ None
  pub takes : takes_memory (state_order_of last.line) (after_lines given (with_none_kept r)) ≡ true
  pub more : List ℕ
  pub read : HasReadGiven asked (given ++ last ∷ []) more io.unread io.left
  pub answered : Appends io.before io.since (answers_of r given)

abbrev pub IsDebugCause : DebugError → RunState → Exchange → Type 0
IsDebugCause Input r io = HasAnsweredSome r io
IsDebugCause Output r io = HasBrokenOff r io
IsDebugCause Memory r io = HasLackedMemory r io
