use Rattle.std.proofs.Common.{◌≡◌, ◌<◌, ℕ, false, get_or}
use Rattle.picture_unit.proofs.rows.has_set.Given as goal

abbrev pub invariant-loop-y : goal.invariant-loop-y
invariant-loop-y l = l.is_set ≡ false → (j : ℕ) → j < l.y → get_or l.flags j false ≡ false
