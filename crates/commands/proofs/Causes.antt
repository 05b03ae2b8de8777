-- Why a recording is not written.
use Rattle.std.proofs.Common.{◌≡◌, ℕ, List, Option, false, inr, refl}
use Rattle.cartridge.specs.Accepted.{IsAccepted}
use Rattle.sector_device.specs.DiskState.{DiskState}
use Rattle.sector_device.specs.Looking.{HasLooked, LooksOnly}
use Rattle.sector_device.proofs.Looking.{has_looked, looked_then}
use Rattle.replaying.specs.Writing.{IsWriteCause, WritesPart, script_in, faults_after as write_faults_after}
use Rattle.replaying.specs.declared.error.WriteRecordedError.{WriteRecordedError}
use Rattle.replaying.specs.declared.error.WriteRecordedError.TheVariants.{Broken, Device, Output as OutputFailed}
use Rattle.commands.specs.Recorded.{IsScriptCause, script_error}
use Rattle.commands.specs.Refusals.{faults_after}
use Rattle.commands.specs.declared.error.CommandError.TheVariants.{Output}

-- the output failed only where it did
pub script_output : (why : WriteRecordedError) → script_error why ≡ Output → why ≡ OutputFailed
script_output Broken is = absurd (cc)
script_output Device is = absurd (cc)
script_output OutputFailed is = refl

-- a recording that was opened is not broken
pub not_written : (why : WriteRecordedError) (rom : List ℕ) (old : DiskState) (before since : Option (List ℕ)) → IsAccepted rom → IsWriteCause why false
    → (old.honest → WritesPart why before since (script_in old.sectors)) → IsScriptCause rom old before since (script_error why)
not_written Broken rom old before since accepted cause part = absurd (cc)
not_written Device rom old before since accepted cause part = (accepted, inr (refl, part))
not_written OutputFailed rom old before since accepted cause part = (accepted, part)

pub script_faults : (why : WriteRecordedError) (n : ℕ) → write_faults_after why n ≡ faults_after (script_error why) n
script_faults Broken n = refl
script_faults Device n = refl
script_faults OutputFailed n = refl

-- one look behind another
pub looked_both : {first second third : DiskState} → ((image : List (List ℕ)) → first.since first.moment image → first.image image) → HasLooked first second → HasLooked second third → HasLooked first third
looked_both only one more = has_looked only (looked_then (as_only one) (as_only more))
  where
    as_only : {old now : DiskState} → HasLooked old now → LooksOnly old now
    as_only looked = record { honest = looked.honest; sectors = looked.sectors; images = looked.images; kept = looked.kept; time = looked.since.moments; past = looked.since.past }
