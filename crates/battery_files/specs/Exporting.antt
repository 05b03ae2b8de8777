-- What `export_battery` gives, and when it refuses.
use Rattle.std.specs.Prelude.{◌≡◌, ◌≢◌, ℕ, List, true, false, Some, Result, Ok, Err, ⊤}
use Rattle.cartridge.specs.Accepted.{IsAccepted, refusal_of}
use Rattle.machine.specs.Machine.{MachineState}
use Rattle.sector_device.specs.DiskState.{DiskState}
use Rattle.log_format.specs.Content.{content}
use Rattle.session.specs.Calls.{faults_after}
use Rattle.session.specs.Found.{IsLookCause}
use Rattle.session.specs.Stands.{stands}
use Rattle.session.specs.declared.error.SessionError.TheVariants.{Output}
use Rattle.cartridge.specs.Header.{has_battery}
use Rattle.battery_files.specs.Battery.{battery_of}
use Rattle.refusals.specs.declared.refusal.Refusal.{Refusal}
use Rattle.refusals.specs.declared.refusal.Refusal.TheVariants.{Cart, NoBattery, Session}
use Rattle.sector_device.specs.declared.refused.Refused.{Refused}
use Rattle.battery_files.specs.declared.exporting.Exported.{Exported}

-- the image of the device stands for a machine after so many inputs, and the bytes are its battery file
pub record IsExported (rom : List ℕ) (image : List (List ℕ)) (count : ℕ) (bytes : List ℕ) : Type 0 where
  pub machine : MachineState
  pub stood : stands rom (content image) ≡ Some (record { count = count; machine = machine })
  pub bytes_are : bytes ≡ battery_of machine

-- Why there is no file: the first rule of a cartridge that the image breaks; a cartridge without battery; why the game is not looked at,
-- or want of memory.
abbrev pub IsExportCause : (rom : List ℕ) → DiskState → Refusal → Type 0
IsExportCause rom old (Cart fault) = refusal_of rom ≡ Some fault
IsExportCause rom old NoBattery = IsAccepted rom × (has_battery rom ≡ false)
IsExportCause rom old (Session why) =
    IsAccepted rom × (has_battery rom ≡ true) × (old.honest → IsLookCause rom (content old.sectors) why) × (why ≢ Output)
IsExportCause rom old why = ⊥

-- what is wrong with the cartridge is told before the device is touched
abbrev pub IsUntouchedBy : {D : Type 0} → Refusal → (old now : D) → Type 0
IsUntouchedBy (Cart fault) old now = now ≡ old
IsUntouchedBy NoBattery old now = now ≡ old
IsUntouchedBy why old now = ⊤

-- the device's count of failed calls after a refusal: one more after `Device`, and after no other
abbrev pub faults_after_export : Refusal → ℕ → ℕ
faults_after_export (Session why) faults = faults_after why faults
faults_after_export why faults = faults

-- the device that a call leaves
abbrev pub left_by : {D : Type 0} → Result (Exported D) (Refused Refusal D) → D
left_by (Ok exported) = exported.device
left_by (Err refused) = refused.device
