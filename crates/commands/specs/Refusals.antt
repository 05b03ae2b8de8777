-- What the refusals of commands have in common.
use Rattle.std.specs.Prelude.{◌≡◌, ℕ, List, Option, Some}
use Rattle.std.specs.Io.KnownBytes.{Keeps}
use Rattle.exact_text.specs.Written.{AppendsProperPrefix}
use Rattle.cartridge.specs.Accepted.{IsAccepted, refusal_of}
use Rattle.session.specs.Calls.{faults_after as session_faults_after}
use Rattle.recording.specs.Calls.{faults_after as recording_faults_after}
use Rattle.streaming.specs.Streamed.{faults_after_stream}
use Rattle.commands.specs.declared.error.CommandError.{CommandError}
use Rattle.commands.specs.declared.error.CommandError.TheVariants.{Cart, Session, Stream, Recording, Memory, Output}

-- why a text of a ROM alone is not written: the first rule of a cartridge that the image breaks, or that memory is wanted, and then nothing
-- was written; or the output failed
abbrev pub IsTextCause : (rom text : List ℕ) → (before since : Option (List ℕ)) → CommandError → Type 0
IsTextCause rom text before since (Cart fault) = Keeps before since × (refusal_of rom ≡ Some fault)
IsTextCause rom text before since Memory = Keeps before since × IsAccepted rom
IsTextCause rom text before since Output = IsAccepted rom × AppendsProperPrefix before since text
IsTextCause rom text before since why = ⊥

-- the count of failed calls of the device that a refused command was on: one more after `Device`, and after no other
abbrev pub faults_after : CommandError → ℕ → ℕ
faults_after (Session why) faults = session_faults_after why faults
faults_after (Stream why) faults = faults_after_stream why faults
faults_after (Recording why) faults = recording_faults_after why faults
faults_after why faults = faults
