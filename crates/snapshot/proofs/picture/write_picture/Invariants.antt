use Rattle.std.proofs.Common.{◌≡◌, ◌<◌, ℕ, ◌+◌, ◌*◌, ◌/◌, ◌%◌, [], get_or}
use Rattle.snapshot.specs.Encoding.{byte_of_four}
use Rattle.machine.specs.Legal.{IsRow}
use Rattle.snapshot.proofs.picture.write_picture.Given as goal

abbrev pub invariant-loop-y : goal.invariant-loop-y
invariant-loop-y l = record {
  done : (k : ℕ) → k < 40 * l.y → get_or l.out k 0 ≡ byte_of_four (get_or l.picture.rows (k / 40) []) (k % 40);
  legal : (y : ℕ) → y < l.y → IsRow (get_or l.picture.rows y []);
}

abbrev pub invariant-loop-place : goal.invariant-loop-place
invariant-loop-place l = record {
  done : (k : ℕ) → k < 40 * l.y + l.place → get_or l.out k 0 ≡ byte_of_four (get_or l.picture.rows (k / 40) []) (k % 40);
  legal : (y : ℕ) → y < l.y → IsRow (get_or l.picture.rows y []);
  row : get_or l.picture.rows l.y [] ≡ l.row;
  right : IsRow l.row;
}
