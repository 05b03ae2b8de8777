-- What public clauses see of a `Session`.
use Rattle.std.specs.Prelude.{◌≡◌, ℕ, List, Bool, Result, Ok, Err}
use Rattle.sector_device.specs.declared.device.SectorDevice.{Ghosts}
use Rattle.sector_log.specs.Accessors.{device_of as device_of_store, is_broken as is_broken_store, entries_of, generation_of}
use Rattle.input_entries.specs.declared.Entry.{Entry}
use Rattle.input_entries.specs.declared.StoredEntry.{StoredEntry}
use Rattle.machine.specs.Machine.{MachineState}
use Rattle.session.specs.declared.error.SessionError.{SessionError}
use Rattle.sector_device.specs.declared.refused.Refused.{Refused}
use Rattle.session.specs.Stands.{Position}
use Rattle.session.specs.declared.session.Session.{Session}

module _ {D : Type 0} {disk : Ghosts D} where
  -- its device
  abbrev pub device_of : Session D disk → D
  device_of s = device_of_store s.store

  -- its machine
  abbrev pub machine_of : Session D disk → MachineState
  machine_of s = s.machine

  -- the ROM of its cartridge
  abbrev pub rom_of : Session D disk → List ℕ
  rom_of s = s.machine.processor.memory.banks.rom

  -- the inputs that are not saved, as entries
  abbrev pub pending_of : Session D disk → List Entry
  pending_of s = s.pending.items

  abbrev pub acknowledged_of : Session D disk → ℕ
  acknowledged_of s = s.acknowledged

  -- the saved inputs: how many there are, and the machine after them
  abbrev pub saved_of : Session D disk → Position
  saved_of s = record { count = s.acknowledged; machine = s.saved.value }

  -- a call of its device failed: only resuming helps
  abbrev pub is_broken : Session D disk → Bool
  is_broken s = is_broken_store s.store

  -- the entries of the log on the device
  abbrev pub log_in : Session D disk → List StoredEntry
  log_in s = entries_of s.store

  abbrev pub generation_in_use : Session D disk → ℕ
  generation_in_use s = generation_of s.store

  -- nothing of it changed
  pub record IsUnchanged (old new : Session D disk) : Type 0 where
    pub device : device_of new ≡ device_of old
    pub machine : machine_of new ≡ machine_of old
    pub pending : pending_of new ≡ pending_of old
    pub acknowledged : acknowledged_of new ≡ acknowledged_of old
    pub saved : saved_of new ≡ saved_of old
    pub broken : is_broken new ≡ is_broken old
    pub log : log_in new ≡ log_in old
    pub generation : generation_in_use new ≡ generation_in_use old

  -- nothing of it changed but the machine and the unsaved inputs
  pub record KeepsSaved (old new : Session D disk) : Type 0 where
    pub device : device_of new ≡ device_of old
    pub saved : saved_of new ≡ saved_of old
    pub rom : rom_of new ≡ rom_of old
    pub broken : is_broken new ≡ is_broken old
    pub log : log_in new ≡ log_in old
    pub generation : generation_in_use new ≡ generation_in_use old

  -- nothing of it changed but the device
  pub record KeepsAllBut (old new : Session D disk) : Type 0 where
    pub machine : machine_of new ≡ machine_of old
    pub pending : pending_of new ≡ pending_of old
    pub acknowledged : acknowledged_of new ≡ acknowledged_of old
    pub saved : saved_of new ≡ saved_of old
    pub broken : is_broken new ≡ is_broken old
    pub log : log_in new ≡ log_in old
    pub generation : generation_in_use new ≡ generation_in_use old

  -- the device that `new_game`, `new_game_from` or `resume` leaves
  abbrev pub left_by : Result (Session D disk) (Refused SessionError D) → D
  left_by (Ok session) = device_of session
  left_by (Err refused) = refused.device
