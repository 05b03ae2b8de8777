-- The tile rows of VRAM, and what a cache of them keeps.
use Rattle.std.specs.Prelude.{◌≡◌, ℕ, ◌+◌, ◌*◌, ◌<◌, Bool, true, false, List, [], length, slice_index, slice_index_or}
use Rattle.picture_lines.specs.Bits.{plane_colours}

-- the eight colours of tile row i, which is the bytes 2 i and 2 i + 1
unfoldable pub tile_row : List ℕ → ℕ → List ℕ
tile_row bytes i = plane_colours (slice_index bytes (2 * i)) (slice_index bytes (2 * i + 1))

-- each row that is not stale has the colours of its bytes
pub record IsCached (bytes : List ℕ) (rows : List (List ℕ)) (stale : List Bool) : Type 0 where
  pub byte_count : length bytes ≡ 8192
  pub row_count : length rows ≡ 3072
  pub mark_count : length stale ≡ 3072
  pub fresh : (i : ℕ) → i < 3072 → slice_index_or stale i true ≡ false → slice_index_or rows i [] ≡ tile_row bytes i
