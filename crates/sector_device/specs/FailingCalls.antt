-- Which calls of a device in memory fail, which a public function states.
use Rattle.std.specs.Prelude.{◌≡◌, ℕ, ◌+◌, ◌≤◌, ◌<◌, ◌&&◌, ◌==◌, not, nat_lt, Bool, false, List, [], ◌∷◌, None, length, slice_index_or}
use Rattle.sector_device.specs.Memory.{MemoryState, fused, passes, has_room, read_called, write_called, sync_called}

pub data Call : Type 0 where
  ReadCall : Call
  WriteCall : (at : ℕ) (bytes : List ℕ) → Call
  SyncCall : Call

-- whether it answers `Ok`, and what it leaves
abbrev pub is_passed : Call → MemoryState → Bool
is_passed ReadCall m = passes m
is_passed (WriteCall at bytes) m = passes m && has_room m
is_passed SyncCall m = passes m && has_room m

abbrev pub left_by : Call → MemoryState → MemoryState
left_by ReadCall m = read_called m
left_by (WriteCall at bytes) m = write_called at bytes m
left_by SyncCall m = sync_called m

-- whether each of these calls passes, the first of them first
abbrev pub answers : List Call → MemoryState → List Bool
answers [] m = []
answers (call ∷ calls) m = is_passed call m ∷ answers calls (left_by call m)

-- the record has room for all of them
abbrev pub HasRoomFor : List Call → MemoryState → Type 0
HasRoomFor calls m = length m.recorded + length calls ≤ m.room

-- what the public call `fail_at` leaves
abbrev pub failing_at : (k : ℕ) → (kept : Bool) → MemoryState → MemoryState
failing_at k kept m = record m { fails_in = k; keeps = kept }

-- After `fuse(k)` the first k calls pass, and each further one fails. The call at index i is the (i + 1)-th.
abbrev pub FuseLetsSoManyPass : Type 0
FuseLetsSoManyPass = (m : MemoryState) (k i : ℕ) (calls : List Call) →
    m.fails_in ≡ 0 → HasRoomFor calls m → i < length calls →
    slice_index_or (answers calls (fused k m)) i false ≡ nat_lt i k

-- After `fail_at(k, _)` the k-th call fails, and no other does.
abbrev pub OnlyThatCallFails : Type 0
OnlyThatCallFails = (m : MemoryState) (k i : ℕ) (kept : Bool) (calls : List Call) →
    m.fuse ≡ None → HasRoomFor calls m → i < length calls →
    slice_index_or (answers calls (failing_at k kept m)) i false ≡ not (i + 1 == k)
