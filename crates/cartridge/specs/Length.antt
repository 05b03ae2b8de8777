-- The lengths of ROM files: Pan Docs, "The Cartridge Header", "0148 - ROM size". (fixed profile: the length of the
-- file counts, and the byte at 0148 is only shown)
use Rattle.std.specs.Prelude.{◌≡◌, ℕ, zero, suc, ◌*◌, ◌^◌, ◌≤◌, Bool, ◌==◌, ◌||◌}

-- 32 KiB times a power of two
abbrev pub IsImageLength : ℕ → Type 0
IsImageLength n = (k : ℕ) × (n ≡ 32768 * 2 ^ k)

-- whether n is 32 KiB times one of 2 ^ 0, .., 2 ^ k
unfoldable pub is_doubled : ℕ → ℕ → Bool
is_doubled zero n = n == 32768
is_doubled (suc k) n = n == 32768 * 2 ^ suc k || is_doubled k n

-- the same as a test: a k above n itself would give more than n
unfoldable pub is_image_length : ℕ → Bool
is_image_length n = is_doubled n n

-- 2, 4, 8, .. or 512
pub record IsBankCount (banks : ℕ) : Type 0 where
  pub exponent : ℕ
  pub least : 1 ≤ exponent
  pub most : exponent ≤ 9
  pub power : banks ≡ 2 ^ exponent
