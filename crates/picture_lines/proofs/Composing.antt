-- The steps of composing a line of tile rows.
use Rattle.std.proofs.Common.{◌≡◌, ℕ, ◌+◌, ◌*◌, ◌-◌, ◌/◌, ◌%◌, ◌<◌, ◌≤◌, List, length, get_or, ◌∙◌, ap, subst, take, drop, ◌++◌, arith}
use Rattle.std.specs.Prelude.{All}
use lib.Lanes.{put_chunk}
use Rattle.std.proofs.lemmas.Simd.{get_or-put_chunk_at, put_chunk_is}
use Rattle.std.proofs.lemmas.List.Elements.{All-append, All-take, All-drop}
use Rattle.picture_lines.specs.Pixel.{map_row, map_colour, tile_of}
use Rattle.picture_lines.specs.Tiles.{tile_row}
use Rattle.picture_lines.proofs.TileCache.{get_or-tile_row, length-tile_row}

-- eight small colours put into small colours
pub put_chunk-small : (at : ℕ) (xs ys : List ℕ) → at + length ys ≤ length xs → All (λ x. x < 4) xs → All (λ x. x < 4) ys → All (λ x. x < 4) (put_chunk at xs ys)
put_chunk-small at xs ys room small_xs small_ys =
    rw (put_chunk_is at xs ys room) (All-append (λ x. x < 4) (take at xs) (ys ++ drop (length ys) (drop at xs)) (All-take (λ x. x < 4) at xs small_xs) (All-append (λ x. x < 4) ys (drop (length ys) (drop at xs)) small_ys (All-drop (λ x. x < 4) (length ys) (drop at xs) (All-drop (λ x. x < 4) at xs small_xs))))

-- a column's tile
pub map_row_of_tile : (lcdc : ℕ) (vram : List ℕ) (start tile row : ℕ) → map_row lcdc vram start (8 * tile) row ≡ 8 * tile_of lcdc (get_or vram (start + 32 * (row / 8) + tile) 0) + row % 8
unfolding map_row
map_row_of_tile lcdc vram start tile row =
    let same : 8 * tile / 8 ≡ tile = omega arith in
    rw same

-- columns of one tile are in one tile row
map_colour-in_row : (lcdc : ℕ) (vram : List ℕ) (start column j row : ℕ) → column % 8 ≡ 0 → j < 8 → get_or (tile_row vram (map_row lcdc vram start column row)) j 0 ≡ map_colour lcdc vram start (column + j) row
unfolding map_colour map_row
map_colour-in_row lcdc vram start column j row whole within =
    let same_tile : (column + j) / 8 ≡ column / 8 = omega arith
    in let place : (column + j) % 8 ≡ j = omega arith
    in rw (same_tile, place) (get_or-tile_row vram (map_row lcdc vram start column row) j within)

-- the map goes round
wrapped : (first d j : ℕ) → first % 8 ≡ 0 → d % 8 ≡ 0 → j < 8 → (first + d) % 256 + j ≡ (first + (d + j)) % 256
wrapped first d j whole steps within = omega arith

wrapped_whole : (first d : ℕ) → first % 8 ≡ 0 → d % 8 ≡ 0 → (first + d) % 256 % 8 ≡ 0
wrapped_whole first d whole steps = omega arith

-- what one more tile row puts
pub map_colour-put : (lcdc : ℕ) (vram : List ℕ) (start first left at row : ℕ) (buffer : List ℕ) → first % 8 ≡ 0 → left ≤ at → (at - left) % 8 ≡ 0 → at + 8 ≤ length buffer → (i : ℕ) → at ≤ i → i < at + 8 → get_or (put_chunk at buffer (tile_row vram (map_row lcdc vram start ((first + (at - left)) % 256) row))) i 0 ≡ map_colour lcdc vram start ((first + (i - left)) % 256) row
map_colour-put lcdc vram start first left at row buffer whole started steps room i above below =
    let column = (first + (at - left)) % 256
    in let colours = tile_row vram (map_row lcdc vram start column row)
    in let long : length colours ≡ 8 = length-tile_row vram (map_row lcdc vram start column row)
    in let place : at + (i - at) ≡ i = omega arith
    in let within : i - at < 8 = omega arith
    in let moved : at - left + (i - at) ≡ i - left = omega arith
    in let here : get_or (put_chunk at buffer colours) (at + (i - at)) 0 ≡ get_or colours (i - at) 0 = get_or-put_chunk_at at buffer colours (i - at) 0 (omega arith) (omega arith)
    in let P : ℕ → Type 0 = λ n. get_or (put_chunk at buffer colours) n 0 ≡ get_or colours (i - at) 0
    in subst P place here
    ∙ (map_colour-in_row lcdc vram start column (i - at) row (wrapped_whole first (at - left) whole steps) within
    ∙ ap (λ c. map_colour lcdc vram start c row) (wrapped first (at - left) (i - at) whole steps within ∙ ap (λ d. (first + d) % 256) moved))
