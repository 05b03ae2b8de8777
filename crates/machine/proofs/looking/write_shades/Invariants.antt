use Rattle.std.proofs.Common.{◌≡◌, ◌-◌, ◌<◌, ℕ, ◌+◌, ◌*◌, ◌/◌, ◌%◌, [], get_or, All}
use Rattle.machine.proofs.looking.write_shades.Given as goal

abbrev pub invariant-loop-y : goal.invariant-loop-y
invariant-loop-y l = (k : ℕ) → k < 160 * l.y → get_or l.out k 0 ≡ 3 - get_or (get_or l.picture.rows (k / 160) []) (k % 160) 0

abbrev pub invariant-loop-x : goal.invariant-loop-x
invariant-loop-x l = record {
  done : (k : ℕ) → k < 160 * l.y + l.x → get_or l.out k 0 ≡ 3 - get_or (get_or l.picture.rows (k / 160) []) (k % 160) 0;
  row : get_or l.picture.rows l.y [] ≡ l.row;
  shades : All (λ shade. shade < 4) l.row;
}
