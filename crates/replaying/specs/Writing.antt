-- What a call that writes a recording as a script leaves.
use Rattle.std.specs.Prelude.{◌≡◌, ◌≤◌, ℕ, List, length, take, Option, Bool, true, false}
use Rattle.std.specs.Io.KnownBytes.{Appends}
use Rattle.sector_device.specs.DiskState.{next_count}
use Rattle.exact_text.specs.Written.{AppendsProperPrefix}
use Rattle.input_entries.specs.Inputs.{inputs}
use Rattle.recording.specs.Recorded.{entries}
use Rattle.session.specs.Inputs.{inputs_of}
use Rattle.replaying.specs.Script.{script_of}
use Rattle.replaying.specs.declared.error.WriteRecordedError.{WriteRecordedError}
use Rattle.replaying.specs.declared.error.WriteRecordedError.TheVariants.{Broken, Device, Output}

-- the script of all inputs that an image of a recording holds
abbrev pub script_in : List (List ℕ) → List ℕ
script_in image = script_of (inputs_of (inputs (entries image)))

-- a writer whose bytes are known got the first `count` bytes of the text
pub record AppendsPrefix (old new : Option (List ℕ)) (text : List ℕ) : Type 0 where
  pub count : ℕ
  pub within : count ≤ length text
  pub prefix : Appends old new (take count text)

-- nothing, where a call failed before; a proper prefix, where the output failed; a prefix, where a call fails now
abbrev pub WritesPart : WriteRecordedError → (old new : Option (List ℕ)) → (text : List ℕ) → Type 0
WritesPart Broken old new text = new ≡ old
WritesPart Output old new text = AppendsProperPrefix old new text
WritesPart Device old new text = AppendsPrefix old new text

-- why a recording is not written, or not all of it
abbrev pub IsWriteCause : WriteRecordedError → (broken : Bool) → Type 0
IsWriteCause Broken broken = broken ≡ true
IsWriteCause Device broken = broken ≡ false
IsWriteCause Output broken = broken ≡ false

-- the device's count of failed calls after an answer: one more after `Device`, and after no other
abbrev pub faults_after : WriteRecordedError → ℕ → ℕ
faults_after Device faults = next_count faults
faults_after Broken faults = faults
faults_after Output faults = faults
