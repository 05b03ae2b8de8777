-- What `recorded_lines` writes, and when it refuses.
use Rattle.std.specs.Prelude.{◌≡◌, ◌⊎◌, ℕ, List, Option, Some}
use Rattle.std.specs.Io.KnownBytes.{Appends, Keeps}
use Rattle.sha2.specs.Sha256.{sha256}
use Rattle.exact_text.specs.Written.{AppendsProperPrefix}
use Rattle.cartridge.specs.Accepted.{IsAccepted, refusal_of}
use Rattle.sector_device.specs.DiskState.{DiskState}
use Rattle.input_entries.specs.Inputs.{inputs}
use Rattle.recording.specs.Calls.{IsOpenCause}
use Rattle.recording.specs.Recorded.{recorded, entries}
use Rattle.recording.specs.declared.fault.RecordingFault.TheVariants.{Device, Broken}
use Rattle.replaying.specs.Writing.{script_in, AppendsPrefix}
use Rattle.replaying.specs.declared.error.WriteRecordedError.{WriteRecordedError}
use Rattle.replaying.specs.declared.error.WriteRecordedError.TheVariants.{Broken as WasBroken, Device as DeviceFailed, Output as OutputFailed}
use Rattle.commands.specs.declared.error.CommandError.{CommandError}
use Rattle.commands.specs.declared.error.CommandError.TheVariants.{Cart, Recording, Output}

-- reads gave a recording of this ROM, and the script of its inputs went out
pub record HasWrittenScript (rom : List ℕ) (old : DiskState) (before since : Option (List ℕ)) : Type 0 where
  pub of_rom : recorded (sha256 rom) old.sectors ≡ Some (inputs (entries old.sectors))
  pub written : Appends before since (script_in old.sectors)

-- Why it is not written, or not all of it: the first rule of a cartridge that the image breaks; why the recording is not opened, and
-- nothing went out; a call that failed, with a prefix of the text; a write that failed, with a proper prefix.
abbrev pub IsScriptCause : (rom : List ℕ) → DiskState → (before since : Option (List ℕ)) → CommandError → Type 0
IsScriptCause rom old before since (Cart fault) = (refusal_of rom ≡ Some fault) × Keeps before since
IsScriptCause rom old before since (Recording why) =
    IsAccepted rom × ((IsOpenCause why (sha256 rom) old × Keeps before since) ⊎ ((why ≡ Device) × (old.honest → AppendsPrefix before since (script_in old.sectors))))
IsScriptCause rom old before since Output = IsAccepted rom × (old.honest → AppendsProperPrefix before since (script_in old.sectors))
IsScriptCause rom old before since why = ⊥

-- what a recording that is not written, or not all of it, is for the lines
abbrev pub script_error : WriteRecordedError → CommandError
script_error WasBroken = Recording Broken
script_error DeviceFailed = Recording Device
script_error OutputFailed = Output
