-- The rows of shades while lines that are due to be drawn are only noted.
use Rattle.std.specs.Prelude.{◌≡◌, ℕ, ◌<◌, List, [], ◌∷◌, length, get_or, All, Bool, true, false, replicate, if◌then◌else◌}
use Rattle.picture_lines.specs.Pixel.{drawn_row}
use Rattle.picture_lines.specs.declared.registers.LineRegisters.{LineRegisters}
use Rattle.picture_unit.specs.declared.rows.KeptRows.{KeptRows}
use Rattle.picture_unit.specs.declared.rows.LateLines.{LateLines}
use Rattle.picture_unit.specs.declared.rows.Rows.{Rows}

-- the rows once the late lines are drawn
unfoldable pub shown : (are_late : List Bool) (drawn_by : List LineRegisters) (vram oam : List ℕ) → List (List ℕ) → List (List ℕ)
shown [] drawn_by vram oam rows = rows
shown (is_late ∷ are_late) [] vram oam rows = rows
shown (is_late ∷ are_late) (by ∷ drawn_by) vram oam [] = []
shown (is_late ∷ are_late) (by ∷ drawn_by) vram oam (row ∷ rows) =
    (if is_late then drawn_row by vram oam else row) ∷ shown are_late drawn_by vram oam rows

abbrev pub with_late : LateLines → (vram oam : List ℕ) → List (List ℕ) → List (List ℕ)
with_late lines vram oam rows = shown lines.are_late lines.drawn_by vram oam rows

-- the VRAM that the lines are drawn by that were noted earlier, while VRAM is this
abbrev pub earlier_vram : Rows → (vram : List ℕ) → List ℕ
earlier_vram r vram = if r.has_same_vram then vram else r.earlier_tiles

-- the rows, of lines that were noted earlier, by the VRAM and OAM of then, and over these of lines noted since
abbrev pub rows_of : Rows → (vram oam : List ℕ) → List (List ℕ)
rows_of r vram oam = with_late r.late vram oam (with_late r.earlier (earlier_vram r vram) r.earlier_oam.items r.drawn.items)

pub record AreLines (lines : LateLines) : Type 0 where
  pub visible : All (λ by. by.ly < 144) lines.drawn_by
  pub none : lines.has_some ≡ false → lines.are_late ≡ replicate 144 false

-- the row of a line, as VRAM and OAM draw it by these registers
pub record IsKept (by : LineRegisters) (y : ℕ) (shades vram oam : List ℕ) : Type 0 where
  pub place : by.ly ≡ y
  pub row : shades ≡ drawn_row by vram oam

-- The marked rows are as VRAM and OAM draw them, by the registers that go with them.
abbrev pub AreKept : KeptRows → List (List ℕ) → (vram oam : List ℕ) → Type 0
AreKept k rows vram oam =
    k.has_some ≡ true → (y : ℕ) → y < 144 → get_or k.are_marked y false ≡ true → (by : LineRegisters) → IsKept (get_or k.drawn_by y by) y (get_or rows y []) vram oam

-- what is known of the rows while VRAM and OAM are these
pub record AreRight (r : Rows) (vram oam : List ℕ) : Type 0 where
  pub late : AreLines r.late
  pub earlier : AreLines r.earlier
  pub oam_size : length r.earlier_oam.items ≡ 160
  pub row_count : length r.drawn.items ≡ 144
  pub kept : AreKept r.kept r.drawn.items vram r.kept_oam
  pub kept_oam : r.has_same_oam ≡ true → r.kept_oam ≡ oam
