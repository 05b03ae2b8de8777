-- What a play from ROM and script bytes leaves, and when it refuses.
use Rattle.std.specs.Prelude.{◌≡◌, ◌⊎◌, ℕ, List, [], Bool, true, Option, Some, Result, Ok, Err, IsOk, IfErr, OnOk, ⊤}
use Rattle.std.specs.Io.KnownBytes.{Appends, Keeps}
use Rattle.exact_text.specs.Written.{AppendsProperPrefix}
use Rattle.cartridge.specs.Accepted.{IsAccepted, refusal_of}
use Rattle.machine.specs.Machine.{MachineState, after, picture_rows}
use Rattle.machine.specs.Machine.{Input}
use Rattle.picture_unit.specs.Pgm.{picture_text}
use Rattle.script.specs.Script.{moves_of, IsRefused as IsScriptRefused}
use Rattle.script.specs.declared.moves.Move.{Move}
use Rattle.sector_device.specs.DiskState.{DiskState, HasAnswered}
use Rattle.sector_device.specs.Runs.{HoldsSince}
use Rattle.sector_device.specs.declared.device.SectorDevice.{Ghosts}
use Rattle.log_format.specs.Content.{content}
use Rattle.session.specs.Stands.{Position, stands}
use Rattle.session.specs.Accessors.{device_of}
use Rattle.session.specs.declared.error.SessionError.{SessionError}
use Rattle.session.specs.declared.error.SessionError.TheVariants.{Output}
use Rattle.session.specs.declared.session.Session.{Session as PlaySession}
use Rattle.playing.specs.Played.{IsNotTakenUp, PlayImage, HasPlayed, HasStopped, HasFoundNoMemory}
use Rattle.playing.specs.Report.{report_of}
use Rattle.script.specs.Inputs.{inputs_of_moves}
use Rattle.commands.specs.declared.error.CommandError.{CommandError}
use Rattle.commands.specs.declared.error.CommandError.TheVariants.{Cart, Script, Session, Output as Undrawn}
use Rattle.sector_device.specs.declared.refused.Refused.{Refused}
use Rattle.commands.specs.Refusals.{faults_after}
use Rattle.commands.specs.Text.{Call, IsUnwritten}

abbrev pub moves_read : Result (List Move) ℕ → List Move
moves_read (Ok moves) = moves
moves_read (Err number) = []

-- the moves of a script, and their inputs; none where it has a wrong line
abbrev pub moves_in : List ℕ → List Move
moves_in script = moves_read (moves_of script)

abbrev pub inputs_of_script : List ℕ → List Input
inputs_of_script script = inputs_of_moves (moves_in script)

-- both are accepted
pub record IsPlayable (rom script : List ℕ) : Type 0 where
  pub cartridge : IsAccepted rom
  pub moves : IsOk (moves_of script)

-- the whole report of the script's moves went out; if the device is honest, from the count that reads stood for
pub record HasReported (rom script : List ℕ) (old : DiskState) (before since : Option (List ℕ)) : Type 0 where
  pub count : ℕ
  pub report : Appends before since (report_of count (moves_in script))
  pub counted : old.honest → (from : Position) × (stands rom (content old.sectors) ≡ Some from) × (count ≡ from.count)

-- a machine; if the device is honest, the one after all inputs of the script, from what reads gave
pub record IsLastMachine (rom script : List ℕ) (old : DiskState) (machine : MachineState) : Type 0 where
  pub reached : old.honest → (from : Position) × (stands rom (content old.sectors) ≡ Some from) × (machine ≡ after from.machine (inputs_of_script script))

-- the picture of the last machine went out
pub record HasDrawn (rom script : List ℕ) (old : DiskState) (before since : Option (List ℕ)) : Type 0 where
  pub machine : MachineState
  pub is_last : IsLastMachine rom script old machine
  pub drawn : Appends before since (picture_text (picture_rows machine))

-- what of the picture went out at a refusal: a proper prefix where that failed, else nothing
abbrev pub HasDrawnPart : (rom script : List ℕ) → DiskState → (before since : Option (List ℕ)) → CommandError → Type 0
HasDrawnPart rom script old before since Undrawn =
    (machine : MachineState) × IsLastMachine rom script old machine × AppendsProperPrefix before since (picture_text (picture_rows machine))
HasDrawnPart rom script old before since why = Keeps before since

-- it was not taken up, with nothing written; or it stopped on the way, with its report cut short, or at a power switch for which there was no
-- memory
abbrev pub IsPlayEnd : (rom script : List ℕ) → (old now : DiskState) → SessionError → (before since : Option (List ℕ)) → Type 0
IsPlayEnd rom script old now why before since =
    IsNotTakenUp rom old now why before since ⊎ HasStopped rom old now (moves_in script) why before since ⊎ HasFoundNoMemory rom old now (moves_in script) why before since

-- Both are accepted and all was played: the whole report went out, and, if the device is honest, it is at rest with all inputs.
abbrev pub IsPlayedWhole : (rom script : List ℕ) → Call → Type 0
IsPlayedWhole rom script play =
    IsPlayable rom script × HasReported rom script play.old play.output.before play.output.since
    × (play.old.honest → HasPlayed rom play.old play.now (inputs_of_script script))

-- Why ROM and script are not played to the end: the first rule of a cartridge that the image breaks; the script is refused, of a
-- cartridge that is accepted; and nothing was written then. Or the play ended; or all was played, saved and reported, and the picture
-- could not be written.
abbrev pub IsPlayCause : (rom script : List ℕ) → Call → CommandError → Type 0
IsPlayCause rom script play (Cart fault) = (refusal_of rom ≡ Some fault) × IsUnwritten play.output
IsPlayCause rom script play (Script fault) = IsAccepted rom × IsScriptRefused script fault × IsUnwritten play.output
IsPlayCause rom script play (Session fault) = IsPlayable rom script × IsPlayEnd rom script play.old play.now fault play.output.before play.output.since
IsPlayCause rom script play Undrawn = IsPlayedWhole rom script play
IsPlayCause rom script play why = ⊥

-- it is refused before the device is touched
abbrev pub IsUnplayable : CommandError → Type 0
IsUnplayable (Cart fault) = ⊤
IsUnplayable (Script fault) = ⊤
IsUnplayable why = ⊥

-- what each play from ROM and script bytes answers, whatever it leaves at Ok
pub record AnswersPlay {D T : Type 0} (rom script : List ℕ) (device : D) (play : Call) (report_failed : Bool) (result : Result T (Refused CommandError D)) : Type 0 where
  pub played : OnOk result (IsPlayedWhole rom script play)
  -- each image at each moment
  pub images : play.old.honest → HoldsSince play.old play.now (PlayImage rom play.old (inputs_of_script script))
  -- when it is refused, and what then is left
  pub cause : IfErr result (λ refused. IsPlayCause rom script play refused.why)
  pub untouched : IfErr result (λ refused. IsUnplayable refused.why → refused.device ≡ device)
  -- only a write that failed is told as one
  pub output : IfErr result (λ refused. refused.why ≡ Session Output → report_failed ≡ true)
  pub answered : HasAnswered (λ refused. faults_after refused.why) play.old play.now result

-- the device that a play leaves before its picture
module _ {D : Type 0} {disk : Ghosts D} where
  abbrev pub left_by_session : Result (PlaySession D disk) (Refused CommandError D) → D
  left_by_session (Ok session) = device_of session
  left_by_session (Err refused) = refused.device
