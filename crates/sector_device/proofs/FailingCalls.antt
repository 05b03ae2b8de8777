-- The fuse and the failing call, over a list of calls.
use Rattle.std.proofs.Common.{◌≡◌, ℕ, zero, suc, ◌+◌, ◌-◌, ◌≤◌, ◌<◌, Bool, true, false, List, [], ◌∷◌, length, refl, ap, ◌∙◌, arith}
use Rattle.std.specs.Prelude.{◌&&◌, ◌++◌, ◌==◌, not, nat_lt, Some, None, slice_index_or, if◌then◌else◌}
use Rattle.std.proofs.lemmas.Bool.{lt-ltb}
use Rattle.std.proofs.lemmas.Bool.Decides.{nat_tests}
use Rattle.std.proofs.Common.{length-append}
use Rattle.sector_device.specs.Memory.{MemoryState, fused, passes, has_room, call_counted, fuse_after, called}
use Rattle.sector_device.specs.declared.recorded.Recorded.{Recorded}
use Rattle.sector_device.specs.FailingCalls.{Call, ReadCall, WriteCall, SyncCall, is_passed, left_by, answers, HasRoomFor, failing_at, FuseLetsSoManyPass, OnlyThatCallFails}

-- ---- what a call leaves of the fuse, of the failing call and of the room

record IsCountedFrom (m n : MemoryState) : Type 0 where
  fuse : n.fuse ≡ fuse_after m.fuse
  fails_in : n.fails_in ≡ m.fails_in - 1
  room : n.room ≡ m.room
  grown : length n.recorded ≤ length m.recorded + 1

of_if : (b : Bool) (m n o : MemoryState) → IsCountedFrom m n → IsCountedFrom m o → IsCountedFrom m (if b then n else o)
of_if true m n o first second = first
of_if false m n o first second = second

recorded_once : (m : MemoryState) (call : Recorded) → length (m.recorded ++ call ∷ []) ≤ length m.recorded + 1
recorded_once m call = omega (arith, length-append m.recorded (call ∷ []))

of_called : (m : MemoryState) (call : Recorded) → IsCountedFrom m (called call m)
of_called m call =
    of_if (has_room (call_counted m)) m _ _
    (of_if (passes m) m _ _
    (record { fuse = refl; fails_in = refl; room = refl; grown = recorded_once m call })
    (record { fuse = refl; fails_in = refl; room = refl; grown = recorded_once m call }))
    (record { fuse = refl; fails_in = refl; room = refl; grown = omega arith })

of_call : (call : Call) (m : MemoryState) → IsCountedFrom m (left_by call m)
of_call ReadCall m =
    of_if (passes m) m _ _ (record { fuse = refl; fails_in = refl; room = refl; grown = omega arith })
    (record { fuse = refl; fails_in = refl; room = refl; grown = omega arith })
of_call (WriteCall at bytes) m = of_called m _
of_call SyncCall m = of_called m _

-- with room a call passes by the fuse and the failing call alone
and_true : (b c : Bool) → c ≡ true → (b && c) ≡ b
and_true true c e = e
and_true false c e = refl

passes_alone : (call : Call) (m : MemoryState) → length m.recorded < m.room → is_passed call m ≡ passes m
passes_alone ReadCall m room = refl
passes_alone (WriteCall at bytes) m room = and_true (passes m) _ (lt-ltb (length m.recorded) m.room room)
passes_alone SyncCall m room = and_true (passes m) _ (lt-ltb (length m.recorded) m.room room)

room_left : (call : Call) (calls : List Call) (m : MemoryState) → HasRoomFor (call ∷ calls) m → HasRoomFor calls (left_by call m)
room_left call calls m room = let after = of_call call m in omega (arith, after.room, after.grown)

-- ---- the fuse

lasts : (k : ℕ) → (not (k == 0) && true) ≡ nat_lt 0 k
lasts k = grind (arith, nat_tests)

passes_by_fuse : (m : MemoryState) (k : ℕ) → m.fuse ≡ Some k → m.fails_in ≡ 0 → passes m ≡ nat_lt 0 k
passes_by_fuse m k fuse none = rw (fuse, none) (lasts k)

burnt : (n i : ℕ) → nat_lt i (n - 1) ≡ nat_lt (suc i) n
burnt n i = grind (arith, nat_tests)

fuse_run : (calls : List Call) (m : MemoryState) (k i : ℕ) → m.fuse ≡ Some k → m.fails_in ≡ 0 → HasRoomFor calls m → i < length calls →
    slice_index_or (answers calls m) i false ≡ nat_lt i k
fuse_run [] m k i fuse none room within = absurd (omega arith)
fuse_run (call ∷ calls) m k zero fuse none room within = passes_alone call m (omega arith) ∙ passes_by_fuse m k fuse none
fuse_run (call ∷ calls) m k (suc i) fuse none room within =
    let after = of_call call m in
    fuse_run calls (left_by call m) (k - 1) i (after.fuse ∙ ap fuse_after fuse) (omega (arith, after.fails_in, none)) (room_left call calls m room) (omega arith)
    ∙ burnt k i

-- ---- the failing call

either_way : (k : ℕ) → not (k == 1) ≡ not (1 == k)
either_way k = grind (arith, nat_tests)

passes_by_count : (m : MemoryState) (k : ℕ) → m.fuse ≡ None → m.fails_in ≡ k → passes m ≡ not (1 == k)
passes_by_count m k fuse count = rw (fuse, count) (either_way k)

nearer : (k i : ℕ) → not (i + 1 == k - 1) ≡ not (suc i + 1 == k)
nearer k i = grind (arith, nat_tests)

failing_run : (calls : List Call) (m : MemoryState) (k i : ℕ) → m.fuse ≡ None → m.fails_in ≡ k → HasRoomFor calls m → i < length calls →
    slice_index_or (answers calls m) i false ≡ not (i + 1 == k)
failing_run [] m k i fuse count room within = absurd (omega arith)
failing_run (call ∷ calls) m k zero fuse count room within = passes_alone call m (omega arith) ∙ passes_by_count m k fuse count
failing_run (call ∷ calls) m k (suc i) fuse count room within =
    let after = of_call call m in
    failing_run calls (left_by call m) (k - 1) i (after.fuse ∙ ap fuse_after fuse) (omega (arith, after.fails_in, count)) (room_left call calls m room) (omega arith)
    ∙ nearer k i

pub fuse_lets_pass : FuseLetsSoManyPass
fuse_lets_pass m k i calls none room within = fuse_run calls (fused k m) k i refl none room within

pub only_that_fails : OnlyThatCallFails
only_that_fails m k i kept calls fuse room within = failing_run calls (failing_at k kept m) k i fuse refl room within
