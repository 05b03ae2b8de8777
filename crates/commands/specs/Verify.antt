-- What `verify_line` writes, and when it refuses.
use Rattle.std.specs.Prelude.{◌≡◌, ℕ, List, ◌++◌, codes, decimal, Option, None, Some}
use Rattle.std.specs.Io.KnownBytes.{Appends, Keeps}
use Rattle.exact_text.specs.Written.{AppendsProperPrefix}
use Rattle.cartridge.specs.Accepted.{IsAccepted, refusal_of}
use Rattle.sector_device.specs.DiskState.{DiskState}
use Rattle.replaying.specs.Verifying.{IsVerified, IsVerifyCause, IsOfVerifying, save_faults_after, recording_faults_after}
use Rattle.commands.specs.declared.error.CommandError.{CommandError}
use Rattle.commands.specs.declared.error.CommandError.TheVariants.{Cart, Verify, Output}

abbrev pub agree_line : ℕ → List ℕ
agree_line count = codes "agree " ++ (decimal count ++ codes "\n")

-- if both devices are honest, the game is the one after so many inputs of the recording; and the line went out
pub record HasAgreed (rom : List ℕ) (save recording : DiskState) (count : ℕ) (before since : Option (List ℕ)) : Type 0 where
  pub verified : save.honest → recording.honest → IsVerified rom save.sectors recording.sectors count
  pub written : Appends before since (agree_line count)

-- they agree, and only a proper prefix of the line went out
pub record IsUnwritten (rom : List ℕ) (save recording : DiskState) (before since : Option (List ℕ)) : Type 0 where
  pub count : ℕ
  pub verified : save.honest → recording.honest → IsVerified rom save.sectors recording.sectors count
  pub written : AppendsProperPrefix before since (agree_line count)

-- why the line is not written: the first rule of a cartridge that the image breaks; why the two don't agree; and then nothing went out
abbrev pub IsLineCause : (rom : List ℕ) → (save recording : DiskState) → (before since : Option (List ℕ)) → CommandError → Type 0
IsLineCause rom save recording before since (Cart fault) = (refusal_of rom ≡ Some fault) × Keeps before since
IsLineCause rom save recording before since (Verify why) =
    IsAccepted rom × Keeps before since × IsOfVerifying None why × (save.honest → recording.honest → IsVerifyCause None rom save recording why)
IsLineCause rom save recording before since Output = IsAccepted rom × IsUnwritten rom save recording before since
IsLineCause rom save recording before since why = ⊥

-- the count of failed calls of the game's device after an answer
abbrev pub save_faults_after_line : CommandError → ℕ → ℕ
save_faults_after_line (Verify why) faults = save_faults_after why faults
save_faults_after_line why faults = faults

-- and of the recording's
abbrev pub recording_faults_after_line : CommandError → ℕ → ℕ
recording_faults_after_line (Verify why) faults = recording_faults_after why faults
recording_faults_after_line why faults = faults
