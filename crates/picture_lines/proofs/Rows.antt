-- A row that was filled column by column.
use Rattle.std.proofs.Common.{◌≡◌, ℕ, ◌<◌, List, length, get_or, map, sym, ◌∙◌, arith}
use Rattle.std.specs.List.{range_with_len}
use Rattle.std.proofs.lemmas.List.FromFn.{length-map-range_with_len, get_or-map-range_with_len}
use Rattle.picture_lines.specs.Pixel.{drawn_row, pixel}
use Rattle.picture_lines.specs.declared.registers.LineRegisters.{LineRegisters}
use Rattle.std.proofs.lemmas.Grind.{same_number_lists}

pub row_from_columns : (f : ℕ → ℕ) (n : ℕ) (row : List ℕ) → length row ≡ n → ((k : ℕ) → k < n → get_or row k 0 ≡ f k) → row ≡ map f (range_with_len 0 n)
row_from_columns f n row size each =
    same_number_lists row (map f (range_with_len 0 n)) (size ∙ sym (length-map-range_with_len f 0 n))
    (λ k h. let within : k < n = omega arith in each k within ∙ sym (get_or-map-range_with_len f 0 n k k 0 within (omega arith)))

pub drawn_row_from_columns : (s : LineRegisters) (vram oam row : List ℕ) → length row ≡ 160 → ((k : ℕ) → k < 160 → get_or row k 0 ≡ pixel s vram oam k) → row ≡ drawn_row s vram oam
unfolding drawn_row
drawn_row_from_columns s vram oam row size each = row_from_columns (pixel s vram oam) 160 row size each
