-- The joypad's four lines are four bits.
use Rattle.std.proofs.Common.{ℕ, ◌<◌}
use Rattle.std.specs.Prelude.{bit_or}
use Rattle.std.proofs.lemmas.Nat.{or_lt}

pub or_of_four_bits : (a b : ℕ) → a < 16 → b < 16 → bit_or a b < 16
or_of_four_bits a b = or_lt 4 a b
