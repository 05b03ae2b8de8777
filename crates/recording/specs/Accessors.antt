-- What public clauses see of a `Recording`.
use Rattle.std.specs.Prelude.{◌+◌, ℕ, List, length, Bool, Result, Ok, Err}
use Rattle.sector_device.specs.declared.device.SectorDevice.{Ghosts}
use Rattle.input_entries.specs.declared.StoredEntry.{StoredEntry}
use Rattle.recording.specs.Sizes.{sectors_for}
use Rattle.recording.specs.declared.fault.RecordingFault.{RecordingFault}
use Rattle.sector_device.specs.declared.refused.Refused.{Refused}
use Rattle.recording.specs.declared.recording.Recording.{Recording}

module _ {D : Type 0} {disk : Ghosts D} where
  -- its device
  abbrev pub device_of : Recording D disk → D
  device_of r = r.device

  -- a call of its device failed: only opening it again helps
  abbrev pub is_broken : Recording D disk → Bool
  is_broken r = r.broken

  -- how many sectors of the list are full
  abbrev pub full_of : Recording D disk → ℕ
  full_of r = r.full

  -- the entries after them
  abbrev pub tail_of : Recording D disk → List StoredEntry
  tail_of r = r.tail.items

  -- how many inputs it holds
  abbrev pub count_of : Recording D disk → ℕ
  count_of r = r.input_count

  -- how many sectors of the list have entries
  abbrev pub used_of : Recording D disk → ℕ
  used_of r = r.full + sectors_for (length r.tail.items)

  -- the entries that were read last
  abbrev pub page_of : Recording D disk → List StoredEntry
  page_of r = r.page.items

  -- the device that `create` and `open` leave
  abbrev pub left_by_open : Result (Recording D disk) (Refused RecordingFault D) → D
  left_by_open (Ok recording) = recording.device
  left_by_open (Err refused) = refused.device
