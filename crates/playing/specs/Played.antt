-- How far a play has come from where it was taken up.
use Rattle.std.specs.Prelude.{◌≡◌, ◌≢◌, ◌⊎◌, ◌≤◌, ◌+◌, ◌-◌, ◌^◌, ℕ, List, [], ◌∷◌, ◌++◌, length, take, drop, true, Option, Some, ⊤}
use Rattle.std.specs.Io.KnownBytes.{Appends, Keeps}
use Rattle.machine.specs.Machine.{MachineState, after}
use Rattle.machine.specs.Machine.{Input}
use Rattle.sector_device.specs.DiskState.{DiskState, Settled}
use Rattle.sector_device.specs.Looking.{HasLooked}
use Rattle.sector_device.specs.Runs.{HoldsSince}
use Rattle.log_format.specs.Content.{content, generation_in}
use Rattle.input_entries.specs.declared.Entry.{Entry}
use Rattle.script.specs.declared.moves.Move.{Move}
use Rattle.script.specs.declared.moves.Move.TheVariants.{Power}
use Rattle.session.specs.Stands.{IsAtRest, CanBeTakenUp, StandsAsBefore, Position, stands}
use Rattle.session.specs.Found.{IsResumeCause}
use Rattle.session.specs.Inputs.{can_be_logged, inputs_of}
use Rattle.session.specs.declared.error.SessionError.{SessionError}
use Rattle.session.specs.declared.error.SessionError.TheVariants.{Memory, Device, GenerationsUsedUp, CountFull, Output}
use Rattle.playing.specs.Report.{lines_of_moves, report_lines, unsaved_behind_moves, HasTold}
use Rattle.playing.specs.Lines.{resumed_line, texts}
use Rattle.script.specs.Inputs.{inputs_of_moves}

-- the image stands for the first so many of these inputs from there, at least for `least` of them
pub record Reaches (rom : List ℕ) (from : Position) (least : ℕ) (given : List Input) (image : List (List ℕ)) : Type 0 where
  pub count : ℕ
  pub at_least : least ≤ count
  pub within : count ≤ length given
  pub is : stands rom (content image) ≡ Some (record { count = from.count + count; machine = after from.machine (take count given) })

-- these inputs were given to a session, which saved the first of them
pub record IsPlayed (rom : List ℕ) (now : DiskState) (acknowledged : ℕ) (pending : List Entry) (machine : MachineState) (from : Position) (given : List Input) : Type 0 where
  pub honest : now.honest
  pub rom_is : machine.processor.memory.banks.rom ≡ rom
  pub saved : ℕ
  pub within : saved ≤ length given
  pub acknowledged_is : acknowledged ≡ from.count + saved
  -- the others are pending, and where a log can hold them, entry by entry
  pub unsaved_is : saved + length pending ≡ length given
  pub pending_is : can_be_logged pending ≡ true → inputs_of pending ≡ drop saved given
  pub machine_is : machine ≡ after from.machine given
  pub settled : Settled now
  pub stands_is : stands rom (content now.sectors) ≡ Some (record { count = acknowledged; machine = after from.machine (take saved given) })

-- from `old` on each image stood for some of these inputs, and they were given
pub record Advanced (rom : List ℕ) (old now : DiskState) (acknowledged : ℕ) (pending : List Entry) (machine : MachineState) (from : Position) (given : List Input) : Type 0 where
  pub moments : HoldsSince old now (Reaches rom from 0 given)
  pub played : IsPlayed rom now acknowledged pending machine from given

-- from `old` on each image stood for some of these inputs, and each that is left stands at least for what was acknowledged
pub record Stopped (rom : List ℕ) (old now : DiskState) (acknowledged : ℕ) (from : Position) (given : List Input) : Type 0 where
  pub honest : now.honest
  pub moments : HoldsSince old now (Reaches rom from 0 given)
  pub least : ℕ
  pub acknowledged_is : acknowledged ≡ from.count + least
  pub images : (image : List (List ℕ)) → now.image image → Reaches rom from least given image

-- the image stands for what one stood for before, or for some of these inputs from what reads gave
pub record ReachesFromReads (rom : List ℕ) (old : DiskState) (given : List Input) (image : List (List ℕ)) : Type 0 where
  pub from : Position
  pub stood : stands rom (content old.sectors) ≡ Some from
  pub reaches : Reaches rom from 0 given image

abbrev pub PlayImage : (rom : List ℕ) → DiskState → List Input → List (List ℕ) → Type 0
PlayImage rom old given image = StandsAsBefore rom old image ⊎ ReachesFromReads rom old given image

-- what reads gave stood for a position, and the device is at rest with all of these inputs after it
pub record HasPlayed (rom : List ℕ) (old now : DiskState) (given : List Input) : Type 0 where
  pub from : Position
  pub stood : stands rom (content old.sectors) ≡ Some from
  pub rests : IsAtRest rom now (from.count + length given) [] (after from.machine given)

-- this count and this machine are those after all of these inputs, from what reads gave
pub record HasReached (rom : List ℕ) (old : DiskState) (count : ℕ) (machine : MachineState) (given : List Input) : Type 0 where
  pub from : Position
  pub stood : stands rom (content old.sectors) ≡ Some from
  pub count_is : count ≡ from.count + length given
  pub machine_is : machine ≡ after from.machine given

-- ---- a play that is refused

-- no call was made of the device: reads give the same, no time passed, and no call failed
abbrev pub IsAsItWas : (old now : DiskState) → Type 0
IsAsItWas old now = (now.sectors ≡ old.sectors) × (now.moment ≡ old.moment) × (now.faults ≡ old.faults)

-- It was not taken up.
pub record IsNotTakenUp (rom : List ℕ) (old now : DiskState) (why : SessionError) (before since : Option (List ℕ)) : Type 0 where
  -- the first reason that holds
  pub cause : old.honest → IsResumeCause rom (generation_in old.sectors) (content old.sectors) why
  -- nothing was written to the report
  pub report : Keeps before since
  -- each image at each moment stands for what one stood for before
  pub images : old.honest → HoldsSince old now (StandsAsBefore rom old)
  -- and unless a call failed it is one that stood before
  pub untouched : (why ≡ Device) ⊎ (old.honest → HoldsSince old now old.image)
  -- where memory was refused, no call was made, or no other reason holds
  pub memory : why ≡ Memory → IsAsItWas old now ⊎ (old.honest → CanBeTakenUp rom old)
  -- where a call failed, nothing was written, or no other reason holds
  pub failed : why ≡ Device → old.honest → HasLooked old now ⊎ CanBeTakenUp rom old
  -- whatever the device does, it is no report that failed
  pub no_report : why ≢ Output

-- Why a play that was taken up stops: the generations used up, a failed call, more inputs in all than can be counted, or the report.
abbrev pub IsStop : SessionError → (all : ℕ) → (now : DiskState) → Type 0
IsStop GenerationsUsedUp all now = now.honest → generation_in now.sectors ≡ 2 ^ 64 - 1
IsStop Device all now = ⊤
IsStop CountFull all now = 2 ^ 64 ≤ all
IsStop Output all now = ⊤
IsStop why all now = ⊥

-- it was taken up at this count, and each image that is left stands for the first of these inputs from there, at least up to the
-- count that is saved
pub record KeepsSaved (rom : List ℕ) (old now : DiskState) (count saved : ℕ) (given : List Input) : Type 0 where
  pub from : Position
  pub stood : stands rom (content old.sectors) ≡ Some from
  pub count_is : count ≡ from.count
  pub least : ℕ
  pub saved_is : saved ≡ from.count + least
  pub images : (image : List (List ℕ)) → now.image image → Reaches rom from least given image

-- It was taken up, and stopped: the report is the front of a whole one, and each image that is left has all inputs up to each count
-- that a line of it tells.
pub record HasStopped (rom : List ℕ) (old now : DiskState) (moves : List Move) (why : SessionError) (before since : Option (List ℕ)) : Type 0 where
  pub count : ℕ
  pub saved : ℕ
  pub cause : IsStop why (count + length (inputs_of_moves moves)) now
  pub report : HasTold why saved (report_lines count moves) before since
  pub images : old.honest → KeepsSaved rom old now count saved (inputs_of_moves moves)

-- It was taken up at this count, and is at rest with all of these inputs from there but the last, of which so many are unsaved.
pub record RestsBehind (rom : List ℕ) (old now : DiskState) (count unsaved : ℕ) (given : List Input) : Type 0 where
  pub from : Position
  pub stood : stands rom (content old.sectors) ≡ Some from
  pub count_is : count ≡ from.count
  pub saved : ℕ
  pub saved_is : saved + unsaved ≡ length given
  pub settled : Settled now
  pub stands_is : stands rom (content now.sectors) ≡ Some (record { count = from.count + saved; machine = after from.machine (take saved given) })

-- It was taken up, and came to a power switch for which there was no memory: the moves before it were made, each save that was due among them
-- was made and told, and then nothing was done or written. The device is at rest with what was saved.
pub record HasFoundNoMemory (rom : List ℕ) (old now : DiskState) (moves : List Move) (why : SessionError) (before since : Option (List ℕ)) : Type 0 where
  pub why_is : why ≡ Memory
  pub count : ℕ
  pub done : List Move
  pub left : List Move
  pub moves_are : moves ≡ done ++ Power ∷ left
  -- the switch could have been counted
  pub room : count + length (inputs_of_moves done) ≢ 2 ^ 64 - 1
  pub report : Appends before since (texts (resumed_line count ∷ lines_of_moves count 0 done))
  pub images : old.honest → RestsBehind rom old now count (unsaved_behind_moves 0 done) (inputs_of_moves done)
