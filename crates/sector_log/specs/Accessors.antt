-- What public clauses see of a `Store`.
use Rattle.std.specs.Prelude.{ℕ, List, Bool, Result, Ok, Err}
use Rattle.sector_device.specs.declared.device.SectorDevice.{Ghosts}
use Rattle.input_entries.specs.declared.StoredEntry.{StoredEntry}
use Rattle.sector_log.specs.declared.store.Store.{Store}
use Rattle.sector_log.specs.declared.fault.LogFault.{LogFault}
use Rattle.sector_device.specs.declared.refused.Refused.{Refused}

module _ {D : Type 0} {disk : Ghosts D} where
  -- the device of a store
  abbrev pub device_of : Store D disk → D
  device_of s = s.device

  -- a call of its device failed: only opening the log again helps
  abbrev pub is_broken : Store D disk → Bool
  is_broken s = s.broken

  -- the entries of its log
  abbrev pub entries_of : Store D disk → List StoredEntry
  entries_of s = s.log.items

  abbrev pub generation_of : Store D disk → ℕ
  generation_of s = s.root.generation

  abbrev pub id_of : Store D disk → List ℕ
  id_of s = s.root.id

  -- the device that `begin` leaves
  abbrev pub left_by_begin : Result (Store D disk) (Refused LogFault D) → D
  left_by_begin (Ok store) = store.device
  left_by_begin (Err refused) = refused.device
