-- What `run_test` answers.
use Rattle.std.specs.Prelude.{◌≡◌, ◌⊎◌, ℕ, List, ◌∷◌, ◌++◌, Option, Some, Ok, IsOk}
use Rattle.std.specs.Io.KnownBytes.{Appends, Keeps}
use Rattle.exact_text.specs.Written.{AppendsProperPrefix}
use Rattle.cartridge.specs.Accepted.{IsAccepted, refusal_of}
use Rattle.machine.specs.Machine.{MachineState, start}
use Rattle.script.specs.declared.moves.Move.{Move}
use Rattle.script.specs.declared.moves.Move.TheVariants.{Power}
use Rattle.script.specs.Script.{moves_of, IsRefused}
use Rattle.test_run.specs.declared.error.TestError.{TestError}
use Rattle.test_run.specs.declared.error.TestError.TheVariants.{Cart, Script, Memory, Output}
use Rattle.test_run.specs.declared.verdict.Verdict.{Verdict}
use Rattle.script.specs.Inputs.{inputs_of_moves}
use Rattle.test_run.specs.Tested.{test_of, tested}
use Rattle.test_run.specs.Text.{test_text}
use Rattle.test_run.specs.Verdict.{verdict_of}

-- the test of this ROM with the moves of this script was run, all of its text is written, and this is its verdict
pub record IsTested (rom script : List ℕ) (frames : ℕ) (before since : Option (List ℕ)) (verdict : Verdict) : Type 0 where
  pub accepted : IsAccepted rom
  pub moves : List Move
  pub script_is : moves_of script ≡ Ok moves
  pub written : Appends before since (test_text (test_of rom moves frames))
  pub verdict_is : verdict ≡ verdict_of (test_of rom moves frames)

-- the same, but only a proper prefix of the text is written
pub record IsCutOff (rom script : List ℕ) (frames : ℕ) (before since : Option (List ℕ)) : Type 0 where
  pub accepted : IsAccepted rom
  pub moves : List Move
  pub script_is : moves_of script ≡ Ok moves
  pub written : AppendsProperPrefix before since (test_text (test_of rom moves frames))

-- there was no memory for a power switch: the moves before it were made, what is sent in them is written, and nothing else
pub record FindsNoMemory (limit done : ℕ) (moves : List Move) (machine : MachineState) (before since : Option (List ℕ)) : Type 0 where
  pub made : List Move
  pub left : List Move
  pub moves_are : moves ≡ made ++ Power ∷ left
  pub written : Appends before since (tested limit done (inputs_of_moves made) machine).sent

-- so it is, with the moves of this script from power-on
pub record IsSwitchedOff (rom script : List ℕ) (frames : ℕ) (before since : Option (List ℕ)) : Type 0 where
  pub accepted : IsAccepted rom
  pub moves : List Move
  pub script_is : moves_of script ≡ Ok moves
  pub stops : FindsNoMemory frames 0 moves (start rom) before since

-- a refusal: the first rule of a cartridge that the image breaks; what is wrong with the script; that memory is wanted, for the moves and the
-- first machine, and then nothing was written, or for a power switch; or the output failed
abbrev pub IsTestRefused : (rom script : List ℕ) → (frames : ℕ) → (before since : Option (List ℕ)) → TestError → Type 0
IsTestRefused rom script frames before since (Cart fault) = (Keeps before since) × (refusal_of rom ≡ Some fault)
IsTestRefused rom script frames before since (Script fault) = (Keeps before since) × IsAccepted rom × IsRefused script fault
IsTestRefused rom script frames before since Memory =
    ((Keeps before since) × IsAccepted rom × IsOk (moves_of script)) ⊎ IsSwitchedOff rom script frames before since
IsTestRefused rom script frames before since Output = IsCutOff rom script frames before since
