-- A device in memory: its record, its fuse and its failing call, and what each call makes of them.
use Rattle.std.specs.Prelude.{◌≡◌, ◌≤◌, ◌<◌, ◌+◌, ◌-◌, ◌^◌, ◌++◌, ◌&&◌, ◌||◌, not, ◌==◌, nat_lt, ℕ, List, [], ◌∷◌, length, Bool, true, false, Option, Some, None, if◌then◌else◌}
use Rattle.sector_device.specs.DiskState.{DiskState, next_count}
use Rattle.sector_device.specs.Records.{recorded_disk, replayed, cut}
use Rattle.sector_device.specs.declared.fuse.Fuse.{Fuse}
use Rattle.sector_device.specs.declared.recorded.Recorded.{Recorded}
use Rattle.sector_device.specs.declared.recorded.Recorded.TheVariants.{Write, Sync}

pub record MemoryState : Type 0 where
  -- the sectors when it was made
  pub at_start : List (List ℕ)
  -- the writes and syncs since, the first of them first
  pub recorded : List Recorded
  -- how many can be recorded
  pub room : ℕ
  -- how many calls still pass, and whether this fuse has failed one
  pub fuse : Option ℕ
  pub blown : Bool
  -- this fuse as it was set
  pub set : Fuse
  -- how many calls it was asked for since it was made: reads, writes and syncs, passed or not, up to the greatest `u64`
  pub asked : ℕ
  -- which call from now on fails, 0 for none, and whether its write is kept
  pub fails_in : ℕ
  pub keeps : Bool
  pub faults : ℕ

-- it is always honest
abbrev pub memory_disk : MemoryState → DiskState
memory_disk m = recorded_disk (Unit {0}) m.at_start m.recorded m.faults m.set

-- the image that a stop leaves if of the writes since the last successful sync it keeps these
abbrev pub image_of : MemoryState → List Bool → List (List ℕ)
image_of m kept = let disk = replayed m.at_start m.recorded in cut disk.synced disk.writes kept

abbrev pub fuse_fails : Option ℕ → Bool
fuse_fails None = false
fuse_fails (Some k) = k == 0

abbrev pub fuse_after : Option ℕ → Option ℕ
fuse_after None = None
fuse_after (Some k) = Some (k - 1)

-- the next call passes: neither the fuse nor the failing call stops it
abbrev pub passes : MemoryState → Bool
passes m = not (fuse_fails m.fuse) && not (m.fails_in == 1)

-- reads give what the next call writes: the fuse comes first
abbrev pub keeps_write : MemoryState → Bool
keeps_write m = not (fuse_fails m.fuse) && (not (m.fails_in == 1) || m.keeps)

abbrev pub has_room : MemoryState → Bool
has_room m = nat_lt (length m.recorded) m.room

-- one call more, of whatever kind and outcome
abbrev pub call_counted : MemoryState → MemoryState
call_counted m = record m { asked = next_count m.asked; fuse = fuse_after m.fuse; blown = m.blown || fuse_fails m.fuse; fails_in = m.fails_in - 1 }

abbrev pub failed : MemoryState → MemoryState
failed m = record m { faults = next_count m.faults }

abbrev pub with_record : Recorded → MemoryState → MemoryState
with_record call m = record m { recorded = m.recorded ++ call ∷ [] }

abbrev pub read_called : MemoryState → MemoryState
read_called m = if passes m then call_counted m else failed (call_counted m)

-- a write or a sync that passes or not: where the record has no room it fails and changes nothing else
abbrev pub done_or_failed : Bool → Recorded → MemoryState → MemoryState
done_or_failed passes call m =
    if has_room m then (if passes then with_record call m else failed (with_record call m)) else failed m

-- the same of a call that was counted, and as failed where it does not pass
abbrev pub recorded_or_failed : Bool → Recorded → MemoryState → MemoryState
recorded_or_failed passes call m = if has_room m then with_record call m else (if passes then failed m else m)

abbrev pub called : Recorded → MemoryState → MemoryState
called call m = done_or_failed (passes m) call (call_counted m)

abbrev pub write_called : ℕ → List ℕ → MemoryState → MemoryState
write_called at bytes m = called (Write at bytes (keeps_write m)) m

abbrev pub sync_called : MemoryState → MemoryState
sync_called m = called (Sync (passes m)) m

-- ---- a fuse that is set, and what the counts say of it

-- from now on so many calls pass
abbrev pub fused : (calls : ℕ) → MemoryState → MemoryState
fused calls m = record m { fuse = Some calls; blown = false; set = record { lets = calls; asked = m.asked; faults = m.faults } }

-- the number of the last call that a fuse lets pass
abbrev pub last_of : Fuse → ℕ
last_of set = set.asked + set.lets

-- What is left of a fuse is what it lets pass less what was asked for since. Each call that was asked for beyond those that it lets pass has
-- failed; and where it failed one, one was asked for beyond them.
pub record IsCounted (set : Fuse) (left : Option ℕ) (blown : Bool) (asked faults : ℕ) : Type 0 where
  pub none : left ≡ None → set.lets ≡ 2 ^ 64 - 1
  pub some : (n : ℕ) → left ≡ Some n → 0 < n → asked + n ≤ last_of set
  pub least : (n : ℕ) → left ≡ Some n → asked < 2 ^ 64 - 1 → last_of set ≤ asked + n
  pub later : set.faults ≤ faults
  pub few : asked < 2 ^ 64
  pub most : faults < 2 ^ 64 - 1 → asked + set.faults ≤ last_of set + faults
  pub past : blown ≡ true → next_count (last_of set) ≤ asked
