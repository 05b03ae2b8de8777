-- Which of the objects at a pixel is shown (Pan Docs, "Drawing priority").
use Rattle.std.specs.Prelude.{◌≡◌, ℕ, ◌<◌, ◌≤◌, List, [], length, slice_index_or, Some, None}
use Rattle.picture_lines.specs.Pixel.{winner}
use Rattle.picture_lines.specs.declared.object_entry.Object.{Object}

-- o stands at a place of the list; those before it have a greater X, and those after it none that
-- is smaller
pub record IsWinner (objects : List Object) (o : Object) : Type 0 where
  pub place : ℕ
  pub within : place < length objects
  pub there : slice_index_or objects place o ≡ o
  pub before : (k : ℕ) → k < place → o.x < (slice_index_or objects k o).x
  pub after : (k : ℕ) → place < k → k < length objects → o.x ≤ (slice_index_or objects k o).x

abbrev pub WinnerIsLeast : Type 0
WinnerIsLeast = (objects : List Object) (o : Object) → winner objects ≡ Some o → IsWinner objects o

abbrev pub SomeObjectWins : Type 0
SomeObjectWins = (objects : List Object) → winner objects ≡ None → objects ≡ []
