-- When a recording holds what a SAVE stands for, and when all that a power cut can leave of both agrees.
use Rattle.std.specs.Prelude.{◌≡◌, ◌≤◌, ℕ, List, length, take, Option, Some}
use Rattle.std.specs.Option.{option_map}
use Rattle.sha2.specs.Sha256.{sha256}
use Rattle.machine.specs.Machine.{Input, after, start}
use Rattle.sector_device.specs.DiskState.{DiskState}
use Rattle.input_entries.specs.declared.Entry.{Entry}
use Rattle.recording.specs.Recorded.{recorded}
use Rattle.log_format.specs.Content.{content}
use Rattle.session.specs.Inputs.{inputs_of}
use Rattle.session.specs.Stands.{Position, stands}

-- this image of a recording holds at least so many inputs of this ROM, and the machine is the one after exactly the first so
-- many of them from power-on
pub record IsRecorded (rom : List ℕ) (recording : List (List ℕ)) (at : Position) : Type 0 where
  pub entries : List Entry
  pub holds : recorded (sha256 rom) recording ≡ Some entries
  pub enough : at.count ≤ length entries
  pub machine_is : at.machine ≡ after (start rom) (inputs_of (take at.count entries))

-- what an image of a SAVE stands for, if it stands for anything, is recorded
abbrev pub Agrees : (rom : List ℕ) → (save recording : List (List ℕ)) → Type 0
Agrees rom save recording = (at : Position) → stands rom (content save) ≡ Some at → IsRecorded rom recording at

-- each image of the SAVE agrees with each image of the recording: whatever a power cut leaves of both
abbrev pub AllAgree : (rom : List ℕ) → (save recording : DiskState) → Type 0
AllAgree rom save recording = (s r : List (List ℕ)) → save.image s → recording.image r → Agrees rom s r

-- the inputs that an image of a recording holds of this ROM, the first of them first
abbrev pub recorded_inputs : (rom : List ℕ) → List (List ℕ) → Option (List Input)
recorded_inputs rom image = option_map inputs_of (recorded (sha256 rom) image)
