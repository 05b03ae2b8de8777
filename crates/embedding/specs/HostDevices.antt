-- What public clauses see of a `HostDevice`.
use Rattle.std.specs.Prelude.{◌≡◌, ◌++◌, ◌∷◌, [], ℕ, List, Option, Some, None, length}
use Rattle.sector_device.specs.DiskState.{DiskState, no_fuse}
use Rattle.sector_device.specs.Records.{recorded_disk}
use Rattle.sector_device.specs.declared.recorded.Recorded.{Recorded}
use Rattle.embedding.specs.Calls.{blank, made, recorded_of}
use Rattle.embedding.specs.declared.host_device.Call.{Call}
use Rattle.embedding.specs.declared.host_device.HostDevice.{HostDevice}

-- the calls that the host has made, or is to make before all others: they were handed out, or it began with them
abbrev pub handed_of : HostDevice → List Recorded
handed_of d = d.handed.calls

-- the calls that are still to be handed out
abbrev pub waiting_of : HostDevice → List Call
waiting_of d = d.waiting.items

-- all of them
abbrev pub calls_of : HostDevice → List Recorded
calls_of d = handed_of d ++ recorded_of (waiting_of d)

abbrev pub count_of : HostDevice → ℕ
count_of d = length d.sectors.items

-- Its disk: sectors of zeros, after these calls. An image is what the last sync left, with any of the writes since; one since a moment is that of
-- so many of the calls or more.
abbrev pub host_disk : HostDevice → DiskState
host_disk d = record (recorded_disk (Unit {0}) (blank (count_of d)) (calls_of d) d.faults no_fuse) { handed = length (handed_of d) }

-- the first of the calls that were waiting was handed out, and nothing else changed; or there was none
abbrev pub HasHandedOut : HostDevice → Option Call → HostDevice → Type 0
HasHandedOut old None new = (waiting_of old ≡ []) × (waiting_of new ≡ []) × (handed_of new ≡ handed_of old)
HasHandedOut old (Some call) new = (waiting_of old ≡ call ∷ waiting_of new) × (handed_of new ≡ handed_of old ++ made call ∷ [])
