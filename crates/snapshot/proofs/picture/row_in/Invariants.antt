use Rattle.std.proofs.Common.{◌≡◌, ◌<◌, ℕ, ◌+◌, ◌*◌, ◌/◌, ◌%◌, length, get_or}
use Rattle.snapshot.specs.Reading.{shade_in}
use Rattle.snapshot.proofs.picture.row_in.Given as goal

abbrev pub invariant-loop-place : goal.invariant-loop-place
invariant-loop-place l = record {
  columns : length l.row ≡ 160;
  done : (k : ℕ) → k < 4 * l.place → get_or l.row k 0 ≡ shade_in (get_or l.picture (40 * l.y + k / 4) 0) (k % 4);
}
