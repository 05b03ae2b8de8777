-- Plain PGM (Netpbm, magic "P2") of 144 rows of 160 shades.
use Rattle.std.specs.Prelude.{ℕ, ◌+◌, ◌-◌, ◌%◌, ◌==◌, List, [], ◌∷◌, ◌++◌, if◌then◌else◌, codes}
use Rattle.std.specs.List.{flat_map}

-- the values of a row from column x on: 3 less the shade, then a space, or a newline after each
-- 32nd
unfoldable pub values_text : (x : ℕ) → List ℕ → List ℕ
values_text x [] = []
values_text x (shade ∷ rest) =
    (48 + (3 - shade)) ∷ (if x % 32 == 31 then 10 else 32) ∷ values_text (x + 1) rest

unfoldable pub row_text : List ℕ → List ℕ
row_text row = values_text 0 row

-- the magic number, width and height, and the greatest value
unfoldable pub header_text : List ℕ
header_text = codes "P2\n160 144\n3\n"

unfoldable pub picture_text : List (List ℕ) → List ℕ
picture_text rows = header_text ++ flat_map row_text rows
