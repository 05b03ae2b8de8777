use Rattle.std.proofs.Common.{◌≡◌, ◌≤◌, ◌+◌, ◌-◌, ℕ, List, length, slice_range, refl, arith, lit≤}
use Rattle.snapshot.proofs.Parts.{part_length}
use Rattle.snapshot.proofs.from_bytes.fill_stores.Goals as goal

-- all parts but the last lie in front of the cartridge RAM
in_front : (bytes : List ℕ) (n ram : ℕ) → n ≤ 22607 → length bytes ≡ 22607 + ram → n ≤ length bytes
in_front bytes n ram low is = omega arith

part : (bytes : List ℕ) (n m ram : ℕ) → n ≤ m → m ≤ 22607 → length bytes ≡ 22607 + ram → length (slice_range bytes n m) ≡ m - n
part bytes n m ram order low is = part_length bytes n m order (in_front bytes m ram low is)

pub slice_bounds-fill-end : goal.slice_bounds-fill-end
slice_bounds-fill-end c = in_front c.args.bytes.now 8320 _ (lit≤ tt) c.requires.length

pub slice_bounds-fill-end-2 : goal.slice_bounds-fill-end-2
slice_bounds-fill-end-2 c = in_front c.args.bytes.now 16512 _ (lit≤ tt) c.requires.length

pub slice_bounds-fill-end-3 : goal.slice_bounds-fill-end-3
slice_bounds-fill-end-3 c = in_front c.args.bytes.now 16672 _ (lit≤ tt) c.requires.length

pub slice_bounds-fill-end-4 : goal.slice_bounds-fill-end-4
slice_bounds-fill-end-4 c = in_front c.args.bytes.now 16799 _ (lit≤ tt) c.requires.length

pub slice_bounds-fill-end-5 : goal.slice_bounds-fill-end-5
slice_bounds-fill-end-5 c = in_front c.args.bytes.now 16847 _ (lit≤ tt) c.requires.length

pub slice_bounds-set_rows-end : goal.slice_bounds-set_rows-end
slice_bounds-set_rows-end c = in_front c.args.bytes.now 22607 _ (lit≤ tt) c.requires.length

pub slice_bounds-fill-count-6 : goal.slice_bounds-fill-count-6
slice_bounds-fill-count-6 c = in_front c.args.bytes.now 22607 _ (lit≤ tt) c.requires.length

pub fill-requires : goal.fill-requires
fill-requires c = part c.args.bytes.now 128 8320 _ (lit≤ tt) (lit≤ tt) c.requires.length

pub fill-requires-2 : goal.fill-requires-2
fill-requires-2 c = part c.args.bytes.now 8320 16512 _ (lit≤ tt) (lit≤ tt) c.requires.length

pub fill-requires-3 : goal.fill-requires-3
fill-requires-3 c = part c.args.bytes.now 16512 16672 _ (lit≤ tt) (lit≤ tt) c.requires.length

pub fill-requires-4 : goal.fill-requires-4
fill-requires-4 c = part c.args.bytes.now 16672 16799 _ (lit≤ tt) (lit≤ tt) c.requires.length

pub fill-requires-5 : goal.fill-requires-5
fill-requires-5 c = part c.args.bytes.now 16799 16847 _ (lit≤ tt) (lit≤ tt) c.requires.length

pub set_rows-requires-clause-length : goal.set_rows-requires-clause-length
set_rows-requires-clause-length c = part c.args.bytes.now 16847 22607 _ (lit≤ tt) (lit≤ tt) c.requires.length

pub set_rows-requires-clause-rows : goal.set_rows-requires-clause-rows
set_rows-requires-clause-rows c = rw (c.fill-5.ensures, c.fill-4.ensures, c.fill-3.ensures, c.fill-2.ensures, c.fill.ensures) c.requires.rows

pub fill-requires-6 : goal.fill-requires-6
fill-requires-6 c = rw (c.set_rows.ensures, c.fill-5.ensures, c.fill-4.ensures, c.fill-3.ensures, c.fill-2.ensures, c.fill.ensures) c.requires.ram

pub returns : goal.returns
returns c = rw (c.fill-6.ensures, c.set_rows.ensures, c.fill-5.ensures, c.fill-4.ensures, c.fill-3.ensures, c.fill-2.ensures, c.fill.ensures) refl
