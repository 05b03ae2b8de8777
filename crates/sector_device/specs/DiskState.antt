-- What a device of sectors stands at, and what one call may make of it: the disk model of this project. A write adds at
-- most, for each image, that image with the sector replaced; a successful sync leaves the one image that reads give; a
-- fault leaves old or new.
use Rattle.std.specs.Prelude.{◌<◌, ◌≡◌, ◌↔◌, ◌⊎◌, ◌+◌, ◌-◌, ◌^◌, ◌++◌, min, ℕ, ◌≤◌, List, [], length, slice_index_or, slice_set, Result, OnOk, OnErr, IfErr, IsErr}
use Rattle.sector_device.specs.declared.fuse.Fuse.{Fuse}
use Rattle.sector_device.specs.declared.recorded.Recorded.{Recorded}

abbrev pub sector_at : List (List ℕ) → ℕ → List ℕ
sector_at image at = slice_index_or image at []

-- an image is a list of sectors, each a list of bytes
pub record DiskState : Type 1 where
  -- what reads give
  pub sectors : List (List ℕ)
  -- the device keeps the disk model and returns what was written
  pub honest : Type 0
  -- an image that a stop at this moment may leave
  pub image : List (List ℕ) → Type 0
  -- the moment, a number that doesn't fall
  pub moment : ℕ
  -- an image that a stop at some moment from that one on might have left
  pub since : ℕ → List (List ℕ) → Type 0
  -- how many calls have failed
  pub faults : ℕ
  -- the writes and syncs that it was asked for, the first of them first
  pub calls : List Recorded
  -- how many of them were handed out, where somebody else makes them
  pub handed : ℕ
  -- the fuse that was set last, which no call changes
  pub fuse : Fuse

-- the fuse of a device that has none: it lets pass as many calls as can be counted
abbrev pub no_fuse : Fuse
no_fuse = record { lets = 2 ^ 64 - 1; asked = 0; faults = 0 }

-- so many sectors of 512 bytes
pub record IsSized (count : ℕ) (image : List (List ℕ)) : Type 0 where
  pub size : length image ≡ count
  pub bytes : (k : ℕ) → k < count → length (sector_at image k) ≡ 512

-- Time goes on, and each image at a moment since has P.
pub record Throughout (old new : DiskState) (P : List (List ℕ) → Type 0) : Type 0 where
  pub later : old.moment ≤ new.moment
  pub each : (t : ℕ) (c : List (List ℕ)) → t ≤ old.moment → new.since t c → old.since t c ⊎ P c

-- nothing that a stop might have left is forgotten
abbrev pub Remembers : DiskState → DiskState → Type 0
Remembers old new = (t : ℕ) (c : List (List ℕ)) → t ≤ old.moment → old.since t c → new.since t c

-- each image is one that stood before
abbrev pub NoNewImage : DiskState → DiskState → Type 0
NoNewImage old new = (c : List (List ℕ)) → new.image c → old.image c

-- each image that stood before still stands
abbrev pub NoLostImage : DiskState → DiskState → Type 0
NoLostImage old new = (c : List (List ℕ)) → old.image c → new.image c

-- each image is one that stood before, or such a one with this sector replaced
abbrev pub Replaces : ℕ → List ℕ → DiskState → DiskState → Type 0
Replaces at bytes old new = (c : List (List ℕ)) → new.image c → (d : List (List ℕ)) × (old.image d) × ((c ≡ d) ⊎ (c ≡ slice_set d at bytes))

-- each image that stood before stands with this sector replaced
abbrev pub MayBeReplaced : ℕ → List ℕ → DiskState → DiskState → Type 0
MayBeReplaced at bytes old new = (c : List (List ℕ)) → old.image c → new.image (slice_set c at bytes)

-- a stop leaves what reads give, and nothing else
abbrev pub Settled : DiskState → Type 0
Settled now = (c : List (List ℕ)) → now.image c → c ≡ now.sectors

-- what each call of an honest device keeps: it is honest still, and an image since an earlier moment is one of then or of now
pub record KeepsHonesty (old new : DiskState) : Type 0 where
  pub honest : new.honest
  pub time : Throughout old new new.image
  pub past : Remembers old new

pub record HasRead {E : Type 0} (at : ℕ) (bytes : List ℕ) (old new : DiskState) (result : Result Unit E) : Type 0 where
  pub goes : KeepsHonesty old new
  pub bytes_are : OnOk result (bytes ≡ sector_at old.sectors at)
  pub sectors : new.sectors ≡ old.sectors
  pub images : NoNewImage old new
  pub kept : NoLostImage old new

pub record HasWritten {E : Type 0} (at : ℕ) (bytes : List ℕ) (old new : DiskState) (result : Result Unit E) : Type 0 where
  pub goes : KeepsHonesty old new
  pub written : OnOk result (new.sectors ≡ slice_set old.sectors at bytes)
  pub old_or_new : (new.sectors ≡ old.sectors) ⊎ (new.sectors ≡ slice_set old.sectors at bytes)
  pub images : Replaces at bytes old new
  pub kept : NoLostImage old new
  pub replaced : OnOk result (MayBeReplaced at bytes old new)

pub record HasSynced {E : Type 0} (old new : DiskState) (result : Result Unit E) : Type 0 where
  pub goes : KeepsHonesty old new
  pub sectors : new.sectors ≡ old.sectors
  pub images : NoNewImage old new
  pub settled : OnOk result (Settled new)
  pub kept : OnErr result (NoLostImage old new)

-- one more, up to the greatest `u64`
abbrev pub next_count : ℕ → ℕ
next_count n = min (n + 1) (2 ^ 64 - 1)

-- a call counts as a fault exactly if it failed
pub record CountsFaults {T E : Type 0} (old new : ℕ) (result : Result T E) : Type 0 where
  pub ok : OnOk result (new ≡ old)
  pub err : OnErr result (new ≡ next_count old)

-- Calls only come: those that were asked for before stay, in their order, and more may stand behind them.
pub record Follows (old now : List Recorded) : Type 0 where
  pub more : List Recorded
  pub is : now ≡ old ++ more

-- What each call does on any device, honest or not. It holds as well of a run of calls that ends at the first one that fails.
pub record HasCalled {T E : Type 0} (old now : DiskState) (result : Result T E) : Type 0 where
  -- the number of sectors stays
  pub count : length now.sectors ≡ length old.sectors
  -- an honest device stays honest, and no other becomes honest
  pub honest : now.honest ↔ old.honest
  -- it counts as a fault exactly if it failed
  pub faults : CountsFaults old.faults now.faults result
  -- what was asked for stays, and nothing of it is handed out
  pub follows : Follows old.calls now.calls
  pub handed : now.handed ≡ old.handed
  -- its fuse stays as it was set
  pub fuse : now.fuse ≡ old.fuse

-- The same of a call of a layer above: its error may have another cause than a failed call, and `faults_after` says what count of
-- faults each error leaves.
pub record HasAnswered {T E : Type 0} (faults_after : E → ℕ → ℕ) (old now : DiskState) (result : Result T E) : Type 0 where
  -- the number of sectors stays
  pub count : length now.sectors ≡ length old.sectors
  -- an honest device stays honest, and no other becomes honest
  pub honest : now.honest ↔ old.honest
  -- at Ok no call failed
  pub faults_ok : OnOk result (now.faults ≡ old.faults)
  -- at an error as many did as it says
  pub faults : IfErr result (λ why. now.faults ≡ faults_after why old.faults)
  -- what was asked for stays, and nothing of it is handed out
  pub follows : Follows old.calls now.calls
  pub handed : now.handed ≡ old.handed
  -- its fuse stays as it was set
  pub fuse : now.fuse ≡ old.fuse

-- for a run of calls: no fault is forgotten, and an error has one as its cause, or the count stands at the greatest `u64`
pub record HasCause {T E : Type 0} (old new : ℕ) (result : Result T E) : Type 0 where
  pub grows : old ≤ new
  pub cause : IsErr result → (old < new) ⊎ (new ≡ 2 ^ 64 - 1)

-- what the layers above see of a device that has handed out some of its calls: all is as it was, but for how many these are
pub record HasHanded (old now : DiskState) : Type 0 where
  pub sectors : now.sectors ≡ old.sectors
  pub honest : now.honest ↔ old.honest
  pub images : NoNewImage old now
  pub kept : NoLostImage old now
  pub moment : now.moment ≡ old.moment
  pub since : (t : ℕ) (c : List (List ℕ)) → now.since t c ↔ old.since t c
  pub faults : now.faults ≡ old.faults
  pub calls : now.calls ≡ old.calls
  pub fuse : now.fuse ≡ old.fuse
