-- What keeps a cache of tile rows right.
use Rattle.std.proofs.Common.{◌≡◌, ◌≢◌, ℕ, ◌+◌, ◌*◌, ◌/◌, ◌<◌, ◌≤◌, Bool, true, false, List, [], length, get_or, set, refl, sym, ◌∙◌, arith, inl, inr, zero, suc}
use Rattle.std.specs.Prelude.{replicate, All, slice_index}
use Rattle.std.proofs.lemmas.List.{get_or-set_other, get_or-set_same, length-set}
use Rattle.std.proofs.lemmas.Bool.{cases_eq}
use Rattle.picture_lines.specs.Bits.{plane_colours, plane_colour}
use Rattle.std.proofs.lemmas.List.FromFn.{get_or-map-range_with_len}
use Rattle.picture_lines.specs.Pixel.{row_colour}
use Rattle.picture_lines.specs.Tiles.{tile_row, IsCached}

-- a write to another row's bytes
tile_row-set : (bytes : List ℕ) (at value i : ℕ) → at ≢ 2 * i → at ≢ 2 * i + 1 → tile_row (set bytes at value) i ≡ tile_row bytes i
unfolding tile_row
tile_row-set bytes at value i low high =
    let low' : 2 * i ≢ at = omega arith
    in let high' : 2 * i + 1 ≢ at = omega arith
    in rw (get_or-set_other bytes at (2 * i) value 0 low', get_or-set_other bytes at (2 * i + 1) value 0 high')

pub IsCached-write : (bytes : List ℕ) (rows : List (List ℕ)) (stale : List Bool) (at value : ℕ) → IsCached bytes rows stale → at < 8192 → at / 2 < 3072 → IsCached (set bytes at value) rows (set stale (at / 2) true)
IsCached-write bytes rows stale at value cached within row_in = record {
  byte_count = length-set bytes at value ∙ cached.byte_count;
  row_count = cached.row_count;
  mark_count = length-set stale (at / 2) true ∙ cached.mark_count;
  fresh = λ i i_in is_fresh. elim (cases_eq i (at / 2)) [
    | inl same ↦
        let marked : get_or (set stale (at / 2) true) i true ≡ true = rw (same, get_or-set_same stale (at / 2) true true (omega (arith, cached.mark_count))) in
        absurd (let no : true ≡ false = sym marked ∙ is_fresh in cc)
    | inr other ↦
        let kept : get_or stale i true ≡ false = sym (get_or-set_other stale (at / 2) i true true other) ∙ is_fresh in
        cached.fresh i i_in kept ∙ sym (tile_row-set bytes at value i (omega arith) (omega arith))
  ];
}

pub IsCached-write_map : (bytes : List ℕ) (rows : List (List ℕ)) (stale : List Bool) (at value : ℕ) → IsCached bytes rows stale → 3072 ≤ at / 2 → IsCached (set bytes at value) rows stale
IsCached-write_map bytes rows stale at value cached above = record {
  byte_count = length-set bytes at value ∙ cached.byte_count;
  row_count = cached.row_count;
  mark_count = cached.mark_count;
  fresh = λ i i_in is_fresh. cached.fresh i i_in is_fresh ∙ sym (tile_row-set bytes at value i (omega arith) (omega arith));
}

pub IsCached-load : (bytes : List ℕ) (rows : List (List ℕ)) (stale : List Bool) (i : ℕ) (colours : List ℕ) → IsCached bytes rows stale → i < 3072 → colours ≡ tile_row bytes i → IsCached bytes (set rows i colours) (set stale i false)
IsCached-load bytes rows stale i colours cached i_in right = record {
  byte_count = cached.byte_count;
  row_count = length-set rows i colours ∙ cached.row_count;
  mark_count = length-set stale i false ∙ cached.mark_count;
  fresh = λ j j_in is_fresh. elim (cases_eq j i) [
    | inl same ↦ rw (same, get_or-set_same rows i colours [] (omega (arith, cached.row_count))) right
    | inr other ↦
        let kept : get_or stale j true ≡ false = sym (get_or-set_other stale i j false true other) ∙ is_fresh in
        get_or-set_other rows i j colours [] other ∙ cached.fresh j j_in kept
  ];
}

pub IsCached-stale : (bytes : List ℕ) (rows : List (List ℕ)) (stale : List Bool) → length bytes ≡ 8192 → length rows ≡ 3072 → length stale ≡ 3072 → ((i : ℕ) → i < 3072 → get_or stale i true ≡ true) → IsCached bytes rows stale
IsCached-stale bytes rows stale byte_count row_count mark_count all = record {
  byte_count = byte_count;
  row_count = row_count;
  mark_count = mark_count;
  fresh = λ i i_in is_fresh. let no = all i i_in in cc;
}

marks-replicate : (n i : ℕ) → get_or (replicate n true) i true ≡ true
marks-replicate zero i = refl
marks-replicate (suc n) zero = refl
marks-replicate (suc n) (suc i) = marks-replicate n i

pub IsCached-new : (bytes : List ℕ) (rows : List (List ℕ)) (stale : List Bool) (n : ℕ) → length bytes ≡ 8192 → length rows ≡ 3072 → length stale ≡ 3072 → stale ≡ replicate n true → IsCached bytes rows stale
IsCached-new bytes rows stale n byte_count row_count mark_count all =
    IsCached-stale bytes rows stale byte_count row_count mark_count (λ i _. rw all (marks-replicate n i))

colour-small : (low high column : ℕ) → plane_colour low high column < 4
unfolding plane_colour
colour-small low high column = omega arith

pub plane_colours-small : (low high : ℕ) → All (λ colour. colour < 4) (plane_colours low high)
unfolding plane_colours
plane_colours-small low high k d h = rw (get_or-map-range_with_len (plane_colour low high) 0 8 k k d h (omega arith)) (colour-small low high k)

-- what TileMemory gives for a tile row: eight colours, each below 4
pub tile_row-small : (bytes : List ℕ) (i : ℕ) → All (λ colour. colour < 4) (tile_row bytes i)
unfolding tile_row
tile_row-small bytes i = plane_colours-small (slice_index bytes (2 * i)) (slice_index bytes (2 * i + 1))

pub length-tile_row : (bytes : List ℕ) (i : ℕ) → length (tile_row bytes i) ≡ 8
unfolding tile_row plane_colours
length-tile_row bytes i = refl

pub get_or-tile_row : (bytes : List ℕ) (i column : ℕ) → column < 8 → get_or (tile_row bytes i) column 0 ≡ row_colour bytes i column
unfolding tile_row plane_colours row_colour
get_or-tile_row bytes i column within = get_or-map-range_with_len (plane_colour (slice_index bytes (2 * i)) (slice_index bytes (2 * i + 1))) 0 8 column column 0 within (omega arith)
