-- What a record of writes and syncs makes of a device, and the images that a stop may leave.
use Rattle.std.specs.Prelude.{◌≡◌, ◌≤◌, ◌<◌, ◌++◌, ◌&&◌, ◌==◌, ℕ, List, [], ◌∷◌, length, take, slice_set, slice_index_or, ◌+◌, Bool, true, false, nat_lt, if◌then◌else◌}
use Rattle.sector_device.specs.DiskState.{DiskState}
use Rattle.sector_device.specs.declared.fuse.Fuse.{Fuse}
use Rattle.sector_device.specs.declared.recorded.Recorded.{Recorded}
use Rattle.sector_device.specs.declared.recorded.Recorded.TheVariants.{Write, Sync}

-- these sectors with those of the writes applied, in order, whose choice is true; a missing choice is false
abbrev pub cut : List (List ℕ) → List (ℕ × List ℕ) → List Bool → List (List ℕ)
cut sectors [] kept = sectors
cut sectors (w ∷ writes) [] = sectors
cut sectors (w ∷ writes) (k ∷ kept) = cut (if k then slice_set sectors w.0 w.1 else sectors) writes kept

pub record Replayed : Type 0 where
  -- the sectors at the last successful sync, or at first
  pub synced : List (List ℕ)
  -- the writes since
  pub writes : List (ℕ × List ℕ)
  -- what reads give
  pub reads : List (List ℕ)

abbrev pub after : Replayed → Recorded → Replayed
after disk (Write at bytes kept) = record {
  synced = disk.synced;
  writes = disk.writes ++ (at, bytes) ∷ [];
  reads = if kept then slice_set disk.reads at bytes else disk.reads;
}
after disk (Sync done) = if done then record { synced = disk.reads; writes = []; reads = disk.reads } else disk

abbrev pub after_all : Replayed → List Recorded → Replayed
after_all disk [] = disk
after_all disk (call ∷ calls) = after_all (after disk call) calls

-- sectors that stood at first, after these calls, of which the first comes first
abbrev pub replayed : List (List ℕ) → List Recorded → Replayed
replayed at_start calls = after_all (record { synced = at_start; writes = []; reads = at_start }) calls

-- an image that a stop may leave: any subset of the writes since the last successful sync
abbrev pub IsCutOf : Replayed → List (List ℕ) → Type 0
IsCutOf disk image = (kept : List Bool) × (image ≡ cut disk.synced disk.writes kept)

-- an image after t or more of the calls
abbrev pub IsImageSince : List (List ℕ) → List Recorded → ℕ → List (List ℕ) → Type 0
IsImageSince at_start calls t image = (k : ℕ) × (t ≤ k) × (k ≤ length calls) × IsCutOf (replayed at_start (take k calls)) image

-- the disk of a device that keeps such a record: the moment is the number of calls in it
abbrev pub recorded_disk : Type 0 → List (List ℕ) → List Recorded → ℕ → Fuse → DiskState
recorded_disk honest at_start calls faults fuse = record {
  sectors = (replayed at_start calls).reads;
  honest = honest;
  image = IsCutOf (replayed at_start calls);
  moment = length calls;
  since = IsImageSince at_start calls;
  faults = faults;
  calls = calls;
  handed = 0;
  fuse = fuse;
}

abbrev pub is_sector : List ℕ → Bool
is_sector bytes = length bytes == 512

-- a test that each list is of 512 bytes
abbrev pub are_sectors : List (List ℕ) → Bool
are_sectors [] = true
are_sectors (s ∷ sectors) = is_sector s && are_sectors sectors

-- a test that a call writes 512 bytes to one of so many sectors
abbrev pub is_recordable : ℕ → Recorded → Bool
is_recordable count (Write at bytes kept) = nat_lt at count && is_sector bytes
is_recordable count (Sync done) = true

abbrev pub are_recordable : ℕ → List Recorded → Bool
are_recordable count [] = true
are_recordable count (call ∷ calls) = is_recordable count call && are_recordable count calls

-- the writes among these calls
abbrev pub writes_in : List Recorded → List (ℕ × List ℕ)
writes_in [] = []
writes_in (Write at bytes kept ∷ calls) = (at, bytes) ∷ writes_in calls
writes_in (Sync done ∷ calls) = writes_in calls

-- what reads give after a call
abbrev pub reads_after : List (List ℕ) → Recorded → List (List ℕ)
reads_after s (Write at bytes kept) = if kept then slice_set s at bytes else s
reads_after s (Sync done) = s

abbrev pub reads_after_all : List (List ℕ) → List Recorded → List (List ℕ)
reads_after_all s [] = s
reads_after_all s (call ∷ calls) = reads_after_all (reads_after s call) calls

abbrev pub is_done_sync : Recorded → Bool
is_done_sync (Write at bytes kept) = false
is_done_sync (Sync done) = done

-- n is the number of calls up to the last successful sync
pub record IsLastSync (calls : List Recorded) (n : ℕ) : Type 0 where
  pub within : n ≤ length calls
  pub ends : (k : ℕ) → k + 1 ≡ n → is_done_sync (slice_index_or calls k (Sync true)) ≡ true
  pub last : (k : ℕ) → n ≤ k → k < length calls → is_done_sync (slice_index_or calls k (Sync true)) ≡ false
