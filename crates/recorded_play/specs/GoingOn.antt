-- A game that was looked at, and is resumed and given what its recording has beyond it; a reader needs none of this.
use Rattle.std.specs.Prelude.{◌≡◌, ◌⊎◌, ◌+◌, ℕ, List, [], length, drop, ⊤}
use Rattle.machine.specs.Machine.{MachineState, after}
use Rattle.machine.specs.Machine.{Input}
use Rattle.sector_device.specs.DiskState.{DiskState}
use Rattle.sector_device.specs.Looking.{LooksOnly}
use Rattle.sector_device.specs.Runs.{HoldsSince}
use Rattle.session.specs.Stands.{IsAtRest, StandsAsBefore, Position}
use Rattle.playing.specs.Played.{Reaches}
use Rattle.session.specs.declared.error.SessionError.TheVariants.{Memory}
use Rattle.recorded_play.specs.CatchingUp.{recorded_in, IsCatchUpStop}
use Rattle.recorded_play.specs.Steps.{IsOfDevices}
use Rattle.recorded_play.specs.declared.error.RecordError.{RecordError}
use Rattle.recorded_play.specs.declared.error.RecordError.TheVariants.{Session}

-- the image stands for what one stood for before, or for some of these inputs from there
abbrev pub LookImage : (rom : List ℕ) → (old : DiskState) → Position → List Input → List (List ℕ) → Type 0
LookImage rom old at more image = StandsAsBefore rom old image ⊎ Reaches rom at 0 more image

pub record LookAdvances (rom : List ℕ) (old_save now_save old_recording now_recording : DiskState) (at : Position) (count : ℕ) (machine : MachineState) : Type 0 where
  pub more : List Input
  pub count_is : count ≡ at.count + length more
  pub machine_is : machine ≡ after at.machine more
  pub more_is : old_recording.honest → more ≡ drop at.count (recorded_in old_recording)
  pub rests : old_save.honest → IsAtRest rom now_save count [] machine
  pub images : old_save.honest → HoldsSince old_save now_save (LookImage rom old_save at more)
  pub looks : old_recording.honest → LooksOnly old_recording now_recording

-- memory was refused to it, or it stopped at that
abbrev pub IsLookStop : RecordError → (all : ℕ) → (now : DiskState) → Type 0
IsLookStop (Session Memory) all now = ⊤
IsLookStop why all now = IsCatchUpStop why all now

pub record LookStops (rom : List ℕ) (old_save now_save old_recording now_recording : DiskState) (at : Position) (why : RecordError) : Type 0 where
  pub cause : old_save.honest → old_recording.honest → IsLookStop why (at.count + length (drop at.count (recorded_in old_recording))) now_save
  pub kind : IsOfDevices why
  pub images : old_save.honest → old_recording.honest → HoldsSince old_save now_save (LookImage rom old_save at (drop at.count (recorded_in old_recording)))
  pub looks : old_recording.honest → LooksOnly old_recording now_recording
