-- What public clauses see of a `FileDevice`. What a file keeps is no fact that a program can know; it is a premise, and
-- stands in `honest`: the file gave what it held as it was opened, and `held` is whatever the caller takes it to be, as an
-- image that the last stop left. From then on the device answers no read whose bytes are not those that were found
-- or written, so within its life it returns what was written; and its images are the sectors of the last successful sync
-- with any subset of the later writes.
use Rattle.std.specs.Prelude.{◌≡◌, ℕ, ◌↔◌, ◌%◌, ◌*◌, ◌≤◌, List}
use Rattle.sector_device.specs.DiskState.{DiskState, no_fuse}
use Rattle.sector_device.specs.Records.{recorded_disk}
use Rattle.sector_device.specs.declared.file.FileDevice.{FileDevice}
use Rattle.sector_device.specs.declared.device.DeviceFault.{DeviceFault}
use Rattle.sector_device.specs.declared.device.DeviceFault.TheVariants.{Device, SizeNotSectors}

abbrev pub file_disk : FileDevice → DiskState
file_disk d = recorded_disk (d.history.found ≡ d.history.held) d.history.found d.history.calls d.faults no_fuse

-- it was just opened: no call yet and no fault, and it is honest exactly if reads give this content
pub record IsOpened (content : List (List ℕ)) (d : FileDevice) : Type 0 where
  pub honest : (file_disk d).honest ↔ ((file_disk d).sectors ≡ content)
  pub moment : (file_disk d).moment ≡ 0
  pub faults : (file_disk d).faults ≡ 0

-- a file is refused for a failed call, or because its bytes are not whole sectors, 65,536 at most
abbrev pub IsAttachFault : DeviceFault → Type 0
IsAttachFault Device = Unit {0}
IsAttachFault (SizeNotSectors n) = n % 512 ≡ 0 → n ≤ 512 * 65536 → ⊥
