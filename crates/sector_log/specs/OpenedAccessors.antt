-- What public clauses see of an `Opened`.
use Rattle.std.specs.Prelude.{ℕ, if◌then◌else◌, Some, None, Result, Ok, Err}
use Rattle.sector_device.specs.declared.device.SectorDevice.{Ghosts}
use Rattle.log_format.specs.Content.{last_generation}
use Rattle.log_format.specs.Found.{Seen, found_with}
use Rattle.sector_log.specs.declared.opened.Opened.{Opened}
use Rattle.sector_log.specs.declared.fault.LogFault.{LogFault}
use Rattle.sector_device.specs.declared.refused.Refused.{Refused}

module _ {D : Type 0} {disk : Ghosts D} where
  -- the device of a log that was opened
  abbrev pub device_under : Opened D disk → D
  device_under o = o.device

  -- the generation that was found, 0 for none
  abbrev pub found_generation : Opened D disk → ℕ
  found_generation o = last_generation o.root

  -- the length of the longest blob that is kept
  abbrev pub longest_blob : Opened D disk → ℕ
  longest_blob o = o.most

  -- what was found
  unfoldable pub seen : Opened D disk → Seen
  seen o = record { found = found_with o.root o.too_small o.log.items; log = o.log.items; blob = if o.blob_read then Some o.blob.items else None }

  -- the device that `open_log` leaves
  abbrev pub left_by_open : Result (Opened D disk) (Refused LogFault D) → D
  left_by_open (Ok opened) = opened.device
  left_by_open (Err refused) = refused.device
