-- The game that is taken up from an image of a device, and the one that begins with a battery file.
use Rattle.std.specs.Prelude.{◌≡◌, ◌≢◌, ◌<◌, ◌+◌, ◌*◌, ◌%◌, ◌⊎◌, ℕ, List, [], length, slice_range, Some, Result, Ok, Err, true, false}
use Rattle.cartridge.specs.Accepted.{IsAccepted, refusal_of}
use Rattle.cartridge.specs.Header.{has_battery, ram_length_of}
use Rattle.machine.specs.Machine.{MachineState}
use Rattle.sector_device.specs.DiskState.{sector_at, next_count}
use Rattle.sector_device.specs.declared.device.SectorDevice.{Ghosts}
use Rattle.log_format.specs.Content.{content, generation_in}
use Rattle.session.specs.Accessors.{acknowledged_of, device_of, log_in, pending_of, is_broken, generation_in_use}
use Rattle.session.specs.Calls.{IsSaveCause as IsSessionSaveCause, fits_log}
use Rattle.session.specs.Found.{IsNewGameCause, IsResumeCause}
use Rattle.session.specs.declared.error.SessionError.{SessionError}
use Rattle.session.specs.declared.session.Session as TheSession
use Rattle.session.specs.declared.error.SessionError.TheVariants.{Device as FailedDevice, Memory as NoMemory}
use Rattle.sector_device.specs.declared.device.DeviceFault.TheVariants.{SizeNotSectors}
use Rattle.session.specs.Stands.{stands}
use Rattle.snapshot.specs.Encoding.{snapshot_length}
use Rattle.battery_files.specs.Importing.{is_taken_length}
use Rattle.embedding.specs.HostDevices.{host_disk}
use Rattle.refusals.specs.declared.refusal.Refusal.{Refusal}
use Rattle.refusals.specs.declared.refusal.Refusal.TheVariants.{Memory, Cart, NoBattery, BatteryLength, Device, Session}
use Rattle.embedding.specs.declared.host_device.HostDevice.{HostDevice}

-- these sectors are the bytes of an image, 512 each
pub record AreSectorsOf (image : List ℕ) (sectors : List (List ℕ)) : Type 0 where
  pub size : length image ≡ 512 * length sectors
  pub each : (k : ℕ) → k < length sectors → sector_at sectors k ≡ slice_range image (512 * k) (512 * k + 512)

-- the sectors of the image stand for this count of inputs and this machine
pub record IsFrom (rom image : List ℕ) (count : ℕ) (machine : MachineState) : Type 0 where
  pub sectors : List (List ℕ)
  pub are : AreSectorsOf image sectors
  pub stood : stands rom (content sectors) ≡ Some (record { count = count; machine = machine })

-- ---- refusals

-- why an image gives no cartridge: the first rule that it breaks; and want of memory only where it breaks none
abbrev pub IsCartCause : (rom : List ℕ) → Refusal → Type 0
IsCartCause rom Memory = IsAccepted rom
IsCartCause rom (Cart fault) = refusal_of rom ≡ Some fault
IsCartCause rom why = ⊥

-- Why no game begins at power-on on a device of so many sectors: the first rule of a cartridge that the image breaks; and where it breaks none,
-- want of memory, or why no new game begins.
abbrev pub IsBeginCause : (rom : List ℕ) → (sectors : ℕ) → Refusal → Type 0
IsBeginCause rom sectors Memory = IsAccepted rom
IsBeginCause rom sectors (Cart fault) = refusal_of rom ≡ Some fault
IsBeginCause rom sectors (Session why) = IsAccepted rom × IsNewGameCause (snapshot_length (ram_length_of rom)) sectors why
IsBeginCause rom sectors why = ⊥

-- the sectors of the image are this reason why no game is taken up
pub record IsRefusedFrom (rom image : List ℕ) (why : SessionError) : Type 0 where
  pub sectors : List (List ℕ)
  pub are : AreSectorsOf image sectors
  pub cause : IsResumeCause rom (generation_in sectors) (content sectors) why

-- Why no game is taken up from an image: it is not whole sectors; the first rule of a cartridge that the ROM breaks; and where neither holds,
-- want of memory, or why its sectors are not taken up.
abbrev pub IsTakeUpCause : (rom image : List ℕ) → Refusal → Type 0
IsTakeUpCause rom image Memory = (length image % 512 ≡ 0) × IsAccepted rom
IsTakeUpCause rom image (Device (SizeNotSectors bytes)) = (bytes ≡ length image) × (length image % 512 ≢ 0)
IsTakeUpCause rom image (Cart fault) = (length image % 512 ≡ 0) × (refusal_of rom ≡ Some fault)
IsTakeUpCause rom image (Session why) = IsAccepted rom × IsRefusedFrom rom image why
IsTakeUpCause rom image why = ⊥

-- the image is a cartridge, and the battery file is one that it takes
abbrev pub IsTaken : (rom battery : List ℕ) → Type 0
IsTaken rom battery = IsAccepted rom × (has_battery rom ≡ true) × (is_taken_length rom (length battery) ≡ true)

-- Why no game begins with a battery file on a device of so many sectors: the first rule of a cartridge that the image breaks; a cartridge
-- without battery; a file of another length; and where none of these holds, want of memory, or why no new game begins.
abbrev pub IsImportCause : (rom battery : List ℕ) → (sectors : ℕ) → Refusal → Type 0
IsImportCause rom battery sectors Memory = IsTaken rom battery
IsImportCause rom battery sectors (Cart fault) = refusal_of rom ≡ Some fault
IsImportCause rom battery sectors NoBattery = IsAccepted rom × (has_battery rom ≡ false)
IsImportCause rom battery sectors (BatteryLength found needed) =
    IsAccepted rom × (has_battery rom ≡ true) × (is_taken_length rom (length battery) ≡ false) × (found ≡ length battery) × (needed ≡ ram_length_of rom)
IsImportCause rom battery sectors (Session why) = IsTaken rom battery × IsNewGameCause (snapshot_length (ram_length_of rom)) sectors why
IsImportCause rom battery sectors why = ⊥

module _ {disk : Ghosts HostDevice} where
  -- Why no save is told: why the session does not save; `Device` stands for one more call of the device that failed, for want of memory for its
  -- note.
  abbrev pub IsSaveCause : (old new : TheSession.Session HostDevice disk) → SessionError → Type 0
  IsSaveCause old new why =
      IsSessionSaveCause why (is_broken old) (fits_log (log_in old) (pending_of old)) (generation_in_use old)
      × (why ≡ FailedDevice → (host_disk (device_of new)).faults ≡ next_count (host_disk (device_of old)).faults)

  -- as many inputs, of which those are not acknowledged that were not, or none
  abbrev pub KeepsInputs : (old new : TheSession.Session HostDevice disk) → Type 0
  KeepsInputs old new =
      (acknowledged_of new + length (pending_of new) ≡ acknowledged_of old + length (pending_of old))
      × ((pending_of new ≡ pending_of old) ⊎ (pending_of new ≡ []))

-- To the power switch, where an input would be answered so: the same; or that there is no memory, where an input would be taken.
abbrev pub IsPowerAnswer : (taken answer : Result Unit SessionError) → Type 0
IsPowerAnswer taken answer = (answer ≡ taken) ⊎ ((answer ≡ Err NoMemory) × (taken ≡ Ok tt))

-- why a game gives no battery file: a cartridge without battery; and want of memory only where it has one
abbrev pub IsBatteryCause : (rom : List ℕ) → Refusal → Type 0
IsBatteryCause rom Memory = has_battery rom ≡ true
IsBatteryCause rom NoBattery = has_battery rom ≡ false
IsBatteryCause rom why = ⊥
