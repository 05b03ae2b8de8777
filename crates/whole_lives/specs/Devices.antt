-- What a life leaves on its devices, and why one is refused.
use Rattle.std.specs.Prelude.{◌≡◌, ◌⊎◌, ◌≤◌, ◌<◌, ◌+◌, ◌-◌, ◌^◌, ℕ, List, [], ◌∷◌, ◌++◌, length, map, take, slice_get, Bool, true, false, Option, Some, None, ⊤}
use Rattle.std.specs.Option.{option_map}
use Rattle.machine.specs.Machine.{Input}
use Rattle.sector_device.specs.DiskState.{Follows, next_count}
use Rattle.sector_device.specs.Memory.{MemoryState, fused, image_of, memory_disk}
use Rattle.sector_device.specs.MemoryDevice.{memory}
use Rattle.log_format.specs.Content.{content}
use Rattle.sector_device.specs.declared.device.SectorDevice.{Ghosts}
use Rattle.recording.specs.Accessors.{device_of as device_of_recording, is_broken as is_broken_recording}
use Rattle.recording.specs.declared.recording.Recording.{Recording}
use Rattle.recording.specs.declared.fault.RecordingFault.TheVariants.{Device as RecordingDevice}
use Rattle.session.specs.Stands.{IsAtRest, Position, stands}
use Rattle.session.specs.Accessors.{device_of, machine_of, rom_of, pending_of, acknowledged_of, is_broken}
use Rattle.session.specs.declared.error.SessionError.{SessionError}
use Rattle.session.specs.declared.error.SessionError.TheVariants.{Memory as NoMemory, Device, GenerationsUsedUp, CountFull, Output}
use Rattle.streaming.specs.declared.error.StreamError.TheVariants.{Session as OfStream}
use Rattle.replaying.specs.Agreeing.{AllAgree, recorded_inputs}
use Rattle.recorded_play.specs.declared.error.RecordError.TheVariants.{Session as OfRecord, Recording as OfRecording}
use Rattle.whole_lives.specs.Lives.{Asking, Files, Played, IsLife}
use Rattle.whole_lives.specs.declared.devices.Devices.{Devices}
use Rattle.whole_lives.specs.declared.error.LifeError.{LifeError}
use Rattle.whole_lives.specs.declared.error.LifeError.TheVariants.{Memory, Stream, Record}
use Rattle.whole_lives.specs.declared.player.Game.{Game}
use Rattle.whole_lives.specs.declared.rounds.Round.{Round}
use Rattle.whole_lives.specs.declared.rounds.RoundEnd.{RoundEnd}

-- the device of a SAVE, and that of its recording, where it has one
pub record Memories : Type 0 where
  pub save : MemoryState
  pub recording : Option MemoryState

abbrev pub memories : Devices → Memories
memories devices = record { save = memory devices.save; recording = option_map memory devices.recording }

-- those of a game, and its position
abbrev pub memories_of : Game → Memories
memories_of game = record { save = memory (device_of game.session); recording = option_map (λ r. memory (device_of_recording r)) game.recording }

abbrev pub position_of : Game → Position
position_of game = record { count = acknowledged_of game.session; machine = machine_of game.session }

-- ---- what images hold

-- each image of the SAVE stands for a position
abbrev pub EachStands : (rom : List ℕ) → Memories → Type 0
EachStands rom now = (image : List (List ℕ)) → (memory_disk now.save).image image → (position : Position) × (stands rom (content image) ≡ Some position)

-- and agrees with each image of the recording
abbrev pub AgreesWithEach : (rom : List ℕ) → MemoryState → Option MemoryState → Type 0
AgreesWithEach rom save None = ⊤
AgreesWithEach rom save (Some recording) = AllAgree rom (memory_disk save) (memory_disk recording)

abbrev pub EachAgrees : (rom : List ℕ) → Memories → Type 0
EachAgrees rom now = AgreesWithEach rom now.save now.recording

-- some image of the recording holds these inputs
abbrev pub IsRecordedLeft : (rom : List ℕ) → Option MemoryState → Option (List Input) → Type 0
IsRecordedLeft rom None None = ⊤
IsRecordedLeft rom (Some recording) (Some recorded) = (image : List (List ℕ)) × (memory_disk recording).image image × (recorded_inputs rom image ≡ Some recorded)
IsRecordedLeft rom recording recorded = ⊥

-- some image of each device: what they hold
pub record AreLeft (rom : List ℕ) (now : Memories) (files : Files) : Type 0 where
  pub image : List (List ℕ)
  pub stood : (memory_disk now.save).image image
  pub stands_is : stands rom (content image) ≡ Some files.save
  pub recorded : IsRecordedLeft rom now.recording files.recorded

-- ---- a game that was taken up

module _ {E : Type 0} {others : Ghosts E} where
  abbrev pub IsOpenIfThere : Option (Recording E others) → Type 0
  IsOpenIfThere None = ⊤
  IsOpenIfThere (Some recording) = is_broken_recording recording ≡ false

-- with nothing unsaved, and at rest there
pub record IsTakenUp (rom : List ℕ) (game : Game) : Type 0 where
  pub none : pending_of game.session ≡ []
  pub whole : is_broken game.session ≡ false
  pub rom_is : rom_of game.session ≡ rom
  pub readable : IsOpenIfThere game.recording
  pub rests : IsAtRest rom (memory_disk (memory (device_of game.session))) (acknowledged_of game.session) [] (machine_of game.session)

-- ---- a life on devices

-- what is given in each round, what each wrote to its report, and whether each came to its end
abbrev pub texts_of : List Round → List (List ℕ)
texts_of rounds = map (λ round. round.lines.items) rounds

-- and at last, where the game is taken up once more, no line
abbrev pub all_texts : List Round → List (List ℕ)
all_texts rounds = texts_of rounds ++ [] ∷ []

abbrev pub reports_of : List RoundEnd → List (List ℕ)
reports_of ends = map (λ end. end.report.items) ends

abbrev pub wholes_of : List RoundEnd → List Bool
wholes_of ends = map (λ end. end.whole) ends

-- a life of rounds that were given this and reported that leads here from what some image of each device held
pub record HasLived (asks : Asking) (rom : List ℕ) (old : Memories) (texts reports : List (List ℕ)) (wholes : List Bool) (last : Files) : Type 0 where
  pub first : Files
  pub left : AreLeft rom old first
  pub rounds : List Played
  pub texts_are : map (λ round. round.text) rounds ≡ texts
  pub reports_are : map (λ round. round.report) rounds ≡ reports
  pub wholes_are : map (λ round. round.whole) rounds ≡ wholes
  pub life : IsLife asks rom rounds first last

-- Devices that agreed agree, those that stood for a position do, and whatever they hold, such a life leads to it.
pub record LeavesLife (asks : Asking) (rom : List ℕ) (old now : Memories) (texts reports : List (List ℕ)) (wholes : List Bool) : Type 0 where
  pub agree : EachAgrees rom old → EachAgrees rom now
  pub stand : EachStands rom old → EachStands rom now
  pub lives : EachAgrees rom old → (last : Files) → AreLeft rom now last → HasLived asks rom old texts reports wholes last

-- so it is, of the first so many rounds, or of all and the last take-up
pub record LeavesSomeLife (asks : Asking) (rom : List ℕ) (old now : Memories) (rounds : List Round) : Type 0 where
  pub texts : List (List ℕ)
  pub reports : List (List ℕ)
  pub wholes : List Bool
  pub are : ((done : ℕ) × (texts ≡ texts_of (take done rounds))) ⊎ (texts ≡ all_texts rounds)
  pub leaves : LeavesLife asks rom old now texts reports wholes

-- such a life leads to a SAVE that stands for this position
abbrev pub EndsLife : (asks : Asking) → (rom : List ℕ) → (old : Memories) → (texts reports : List (List ℕ)) → (wholes : List Bool) → Position → Type 0
EndsLife asks rom old texts reports wholes at = EachAgrees rom old → (recorded : Option (List Input)) × HasLived asks rom old texts reports wholes (record { save = at; recorded = recorded })

-- ---- failed calls

abbrev pub faults_of : Option MemoryState → ℕ
faults_of None = 0
faults_of (Some recording) = recording.faults

-- a call failed of the device of the SAVE, or else of that of the recording
abbrev pub CountsFault : (of_save : Bool) → (old now : Memories) → Type 0
CountsFault true old now = (now.save.faults ≡ next_count old.save.faults) × (faults_of now.recording ≡ faults_of old.recording)
CountsFault false old now = (now.save.faults ≡ old.save.faults) × (faults_of now.recording ≡ next_count (faults_of old.recording))

-- a round that came to its end failed no call, and one that was cut failed one, of one of the devices
abbrev pub CountsCut : (whole : Bool) → (old now : Memories) → Type 0
CountsCut true old now = (now.save.faults ≡ old.save.faults) × (faults_of now.recording ≡ faults_of old.recording)
CountsCut false old now = CountsFault true old now ⊎ CountsFault false old now

-- what a refusal by a failed call says of the counts, and what any other does
abbrev pub CountsRefusal : LifeError → (old left : Memories) → Type 0
CountsRefusal (Stream (OfStream Device)) old left = CountsFault true old left
CountsRefusal (Record (OfRecord Device)) old left = CountsFault true old left
CountsRefusal (Record (OfRecording RecordingDevice)) old left = CountsFault false old left
CountsRefusal why old left = CountsCut true old left

-- ---- a device behind a cut

-- no fuse, no failing call, and nothing asked for or recorded since
pub record IsFresh (now : MemoryState) : Type 0 where
  pub fuse : now.fuse ≡ None
  pub blown : now.blown ≡ false
  pub fails_in : now.fails_in ≡ 0
  pub asked : now.asked ≡ 0
  pub recorded : now.recorded ≡ []

-- ---- rounds on devices

-- a life of one round
abbrev pub LeavesRound : (asks : Asking) → (rom : List ℕ) → (old now : Memories) → (text report : List ℕ) → (whole : Bool) → Type 0
LeavesRound asks rom old now text report whole = LeavesLife asks rom old now (text ∷ []) (report ∷ []) (whole ∷ [])

abbrev pub is_blown : Option MemoryState → Bool
is_blown None = false
is_blown (Some recording) = recording.blown

-- the fuse of one of the devices failed a call
abbrev pub IsBlown : Memories → Type 0
IsBlown left = (left.save.blown ≡ true) ⊎ (is_blown left.recording ≡ true)

-- What a player says of a text that it obeyed to its end, and of one that it refused, with what the devices were and are, and all that it
-- told: each player says of its own what these are.
abbrev pub Obeying : Type 1
Obeying = (rom : List ℕ) → (old now : Memories) → (text report : List ℕ) → Type 0

abbrev pub Refusing : Type 1
Refusing = (rom : List ℕ) → (old left : Memories) → (text report : List ℕ) → LifeError → Type 0

-- a call failed
abbrev pub IsFailedCall : LifeError → Type 0
IsFailedCall why = (why ≡ Stream (OfStream Device)) ⊎ (why ≡ Record (OfRecord Device)) ⊎ (why ≡ Record (OfRecording RecordingDevice))

-- the player says so of this text, on these devices: it obeyed all of it, or a call failed
abbrev pub IsSaid : (obeys : Obeying) → (refuses : Refusing) → (rom : List ℕ) → (old now : Memories) → (text report : List ℕ) → (whole : Bool) → Type 0
IsSaid obeys refuses rom old now text report true = obeys rom old now text report
IsSaid obeys refuses rom old now text report false = (why : LifeError) × IsFailedCall why × refuses rom old now text report why

-- a round was played to its end, or to where a fuse failed a call
pub record IsPlayed (asks : Asking) (obeys : Obeying) (refuses : Refusing) (rom : List ℕ) (old now : Memories) (text report : List ℕ) (whole : Bool) : Type 0 where
  pub leaves : LeavesRound asks rom old now text report whole
  pub said : IsSaid obeys refuses rom old now text report whole
  pub counts : CountsCut whole old now
  pub blown : whole ≡ false → IsBlown now

-- ---- the calls under a fuse

-- whatever was asked for, the fuse is the one that was set, and what was noted stays, in its order
pub record KeepsFuse (old now : MemoryState) : Type 0 where
  pub set : now.set ≡ old.set
  pub follows : Follows old.recorded now.recorded

abbrev pub KeepsFuseIfThere : (old now : Option MemoryState) → Type 0
KeepsFuseIfThere None None = ⊤
KeepsFuseIfThere (Some old) (Some now) = KeepsFuse old now
KeepsFuseIfThere old now = ⊥

pub record KeepFuses (old now : Memories) : Type 0 where
  pub save : KeepsFuse old.save now.save
  pub recording : KeepsFuseIfThere old.recording now.recording

-- A device was asked for so many calls at most, reads, writes and syncs, and for as many more as failed; and where its fuse failed one, for one
-- more at least.
pub record HasBurnt (calls : ℕ) (old now : MemoryState) : Type 0 where
  pub follows : Follows old.recorded now.recorded
  pub most : now.faults < 2 ^ 64 - 1 → now.asked + old.faults ≤ old.asked + calls + now.faults
  pub least : now.blown ≡ true → next_count (old.asked + calls) ≤ now.asked

abbrev pub HasBurntIfThere : (calls : ℕ) → (old now : Option MemoryState) → Type 0
HasBurntIfThere calls None None = ⊤
HasBurntIfThere calls (Some old) (Some now) = HasBurnt calls old now
HasBurntIfThere calls old now = ⊥

-- the devices with the fuses of a round
abbrev pub with_fuses : Round → Memories → Memories
with_fuses round now = record { save = fused round.save_calls now.save; recording = option_map (fused round.recording_calls) now.recording }

-- a device as a cut leaves it: the sectors that were synced, with the chosen later writes
pub record IsCut (kept : List Bool) (old now : MemoryState) : Type 0 where
  pub sectors : now.at_start ≡ image_of old kept
  pub fresh : IsFresh now
  pub faults : now.faults ≡ old.faults

abbrev pub IsCutIfThere : (kept : List Bool) → (old now : Option MemoryState) → Type 0
IsCutIfThere kept None None = ⊤
IsCutIfThere kept (Some old) (Some now) = IsCut kept old now
IsCutIfThere kept old now = ⊥

-- The round was played on devices with exactly its fuses, and ended where these say; the cut kept the chosen writes of what its calls led to,
-- and no other.
pub record IsCutRound (asks : Asking) (obeys : Obeying) (refuses : Refusing) (rom : List ℕ) (old : Memories) (round : Round) (now : Memories) (report : List ℕ) (whole : Bool) : Type 0 where
  pub played : Memories
  pub is_played : IsPlayed asks obeys refuses rom (with_fuses round old) played round.lines.items report whole
  pub save_calls : HasBurnt round.save_calls old.save played.save
  pub recording_calls : HasBurntIfThere round.recording_calls old.recording played.recording
  pub save : IsCut round.save_kept.items played.save now.save
  pub recording : IsCutIfThere round.recording_kept.items played.recording now.recording

-- each round was played on what the cut of the one before it left
abbrev pub AreRounds : (asks : Asking) → (obeys : Obeying) → (refuses : Refusing) → (rom : List ℕ) → List Round → (first last : Memories) → (reports : List (List ℕ)) → (wholes : List Bool) → Type 0
AreRounds asks obeys refuses rom [] first last [] [] = last ≡ first
AreRounds asks obeys refuses rom (round ∷ rounds) first last (report ∷ reports) (whole ∷ wholes) =
    (next : Memories) × IsCutRound asks obeys refuses rom first round next report whole × AreRounds asks obeys refuses rom rounds next last reports wholes
AreRounds asks obeys refuses rom rounds first last reports wholes = ⊥

-- and the game was taken up from what the last of them left, with no fuse
pub record EndsRounds (asks : Asking) (obeys : Obeying) (refuses : Refusing) (rom : List ℕ) (first : Memories) (rounds : List Round) (reports : List (List ℕ)) (wholes : List Bool) (report : List ℕ) (last : Memories) : Type 0 where
  pub left : Memories
  pub rounds_are : AreRounds asks obeys refuses rom rounds first left reports wholes
  pub taken_up : IsPlayed asks obeys refuses rom left last [] report true

-- ---- a refusal

-- the player refused a text behind this report
pub record RefusesPlay (refuses : Refusing) (rom : List ℕ) (old left : Memories) (text report : List ℕ) (why : LifeError) : Type 0 where
  pub cause : refuses rom old left text report why
  pub counted : CountsRefusal why old left

-- by no fuse
pub record IsByNoFuse (why : LifeError) (left : Memories) : Type 0 where
  pub alone : why ≡ Stream (OfStream Device) → left.save.blown ≡ false
  pub save_call : why ≡ Record (OfRecord Device) → left.save.blown ≡ false
  pub recording_call : why ≡ Record (OfRecording RecordingDevice) → is_blown left.recording ≡ false

-- the round was played, and there was no memory for what its cut leaves
pub record RefusesCut (asks : Asking) (obeys : Obeying) (refuses : Refusing) (rom : List ℕ) (old left : Memories) (text : List ℕ) (why : LifeError) : Type 0 where
  pub why_is : why ≡ Memory
  pub report : List ℕ
  pub whole : Bool
  pub is_played : IsPlayed asks obeys refuses rom old left text report whole

-- a round was refused on these devices
abbrev pub RefusesRound : (asks : Asking) → (obeys : Obeying) → (refuses : Refusing) → (rom : List ℕ) → (old left : Memories) → Round → LifeError → Type 0
RefusesRound asks obeys refuses rom old left round why =
    ((report : List ℕ) × RefusesPlay refuses rom (with_fuses round old) left round.lines.items report why × IsByNoFuse why left)
    ⊎ RefusesCut asks obeys refuses rom (with_fuses round old) left round.lines.items why

-- The first so many rounds led to these devices, and then the next was refused, or where there is none, the game was not taken up.
pub record IsRefusedBehind (asks : Asking) (obeys : Obeying) (refuses : Refusing) (rom : List ℕ) (first left : Memories) (rounds : List Round) (why : LifeError) : Type 0 where
  pub done : ℕ
  pub now : Memories
  pub reports : List (List ℕ)
  pub wholes : List Bool
  pub come : AreRounds asks obeys refuses rom (take done rounds) first now reports wholes
  pub refused : ((round : Round) × (slice_get rounds done ≡ Some round) × RefusesRound asks obeys refuses rom now left round why)
      ⊎ ((done ≡ length rounds) × ((report : List ℕ) × RefusesPlay refuses rom now left [] report why))

-- so it was, or there was no memory for the ends
abbrev pub IsLifeRefusal : (asks : Asking) → (obeys : Obeying) → (refuses : Refusing) → (rom : List ℕ) → (first left : Memories) → List Round → LifeError → Type 0
IsLifeRefusal asks obeys refuses rom first left rounds why = ((why ≡ Memory) × (left ≡ first)) ⊎ IsRefusedBehind asks obeys refuses rom first left rounds why

-- A SAVE of which each image stands for a position is not refused for what is found on it. The report lies in memory: where there is none
-- for it, the output fails.
abbrev pub IsSoundStop : SessionError → Type 0
IsSoundStop NoMemory = ⊤
IsSoundStop Device = ⊤
IsSoundStop GenerationsUsedUp = ⊤
IsSoundStop CountFull = ⊤
IsSoundStop Output = ⊤
IsSoundStop why = ⊥

abbrev pub IsSound : LifeError → Type 0
IsSound (Stream (OfStream why)) = IsSoundStop why
IsSound (Record (OfRecord why)) = IsSoundStop why
IsSound why = ⊤
