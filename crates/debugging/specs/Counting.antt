-- What is known of counts while a run goes on.
use Rattle.std.specs.Prelude.{◌≤◌, ℕ, slice_index}
use Rattle.debugging.specs.Profile.{Cycles}

-- no count is above this
pub record IsWithin (most : ℕ) (c : Cycles) : Type 0 where
  pub rom : (offset : ℕ) → slice_index c.rom offset ≤ most
  pub elsewhere : c.elsewhere ≤ most
