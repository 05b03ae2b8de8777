-- What the processor's accesses give and leave, for memories of a type M.
use Rattle.std.specs.Prelude.{ℕ}

pub record Rules (M : Type 0) : Type 0 where
  -- the byte at an address
  pub value_at : M → ℕ → ℕ
  -- the memory after a write of a byte at an address
  pub written : M → ℕ → ℕ → M
  -- the bits that IE and IF share, of the low five
  pub pending_interrupts : M → ℕ
  -- the memory with a bit of IF cleared
  pub acknowledged : M → ℕ → M
  -- the memory after M-cycles
  pub passed : M → ℕ → M
