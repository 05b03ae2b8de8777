-- Four shades to a byte, and back.
use Rattle.std.proofs.Common.{◌≡◌, ℕ, ◌+◌, ◌*◌, ◌/◌, ◌%◌, ◌<◌, ◌≤◌, false, eqb, List, [], length, get_or, sym, ap, subst, ◌∙◌, arith, inl, inr}
use Rattle.std.specs.List.{All}
use Rattle.std.proofs.lemmas.Bool.{cases_lt}
use Rattle.std.proofs.lemmas.Bool.Decides.{nat_tests}
use Rattle.std.proofs.lemmas.List.{get_or_default, get_or_past}
use Rattle.std.proofs.lemmas.List.FromFn.{fill_by_all, length-map-range_with_len, get_or-map-range_with_len}
use Rattle.snapshot.specs.Encoding.{byte_of_four, picture_bytes}
use Rattle.snapshot.specs.Reading.{shade_in, row_in, rows_in}
use Rattle.machine.specs.Legal.{IsRow}

-- ---- a byte

four_shades : (a b c d : ℕ) → a < 4 → b < 4 → c < 4 → d < 4 →
    let byte = 64 * a + 16 * b + 4 * c + d in
    (shade_in byte 0 ≡ a) × (shade_in byte 1 ≡ b) × (shade_in byte 2 ≡ c) × (shade_in byte 3 ≡ d)
four_shades a b c d ha hb hc hd = (omega arith, omega arith, omega arith, omega arith)

byte_again : (n : ℕ) → n < 256 → 64 * shade_in n 0 + 16 * shade_in n 1 + 4 * shade_in n 2 + shade_in n 3 ≡ n
byte_again n h = omega arith

place_back :
    (row : List ℕ) (i k : ℕ) → ((x : ℕ) → get_or row x 0 < 4) → k < 4 → shade_in (byte_of_four row i) k ≡ get_or row (4 * i + k) 0
place_back row i k small lt =
    let f = four_shades (get_or row (4 * i) 0) (get_or row (4 * i + 1) 0) (get_or row (4 * i + 2) 0) (get_or row (4 * i + 3) 0) (small (4 * i)) (small (4 * i + 1)) (small (4 * i + 2)) (small (4 * i + 3)) in
    let zeroth : 4 * i + 0 ≡ 4 * i = omega arith in
    elim (cases_lt k 1) [
      | inl a ↦ let e : k ≡ 0 = omega arith in rw (e, zeroth) f.0
      | inr a ↦ elim (cases_lt k 2) [
        | inl b ↦ let e : k ≡ 1 = omega arith in rw e f.1
        | inr b ↦ elim (cases_lt k 3) [ inl c ↦ let e : k ≡ 2 = omega arith in rw e f.2 | inr c ↦ let e : k ≡ 3 = omega arith in rw e f.3 ]
      ]
    ]

past_three : (place : ℕ) → 3 ≤ place → (eqb place 0 ≡ false) × (eqb place 1 ≡ false) × (eqb place 2 ≡ false)
past_three place h = (grind (arith, nat_tests), grind (arith, nat_tests), grind (arith, nat_tests))

rest_small : (byte place : ℕ) → byte < 256 → 3 ≤ place → shade_in byte place < 4
rest_small byte place h past = let p = past_three place past in rw (p.0, p.1, p.2) (let r : byte % 4 < 4 = omega arith in r)

shade_small : (byte place : ℕ) → byte < 256 → shade_in byte place < 4
shade_small byte place h =
    elim (cases_lt place 1) [
      | inl a ↦ let e : place ≡ 0 = omega arith in rw e (let r : byte / 64 < 4 = omega arith in r)
      | inr a ↦ elim (cases_lt place 2) [
        | inl b ↦ let e : place ≡ 1 = omega arith in rw e (let r : byte / 16 % 4 < 4 = omega arith in r)
        | inr b ↦ elim (cases_lt place 3) [
          | inl c ↦ let e : place ≡ 2 = omega arith in rw e (let r : byte / 4 % 4 < 4 = omega arith in r)
          | inr c ↦ rest_small byte place h c
        ]
      ]
    ]

-- ---- rows of bytes

row_cell :
    (picture : List ℕ) (y x : ℕ) → x < 160 → get_or (row_in picture y) x 0 ≡ shade_in (get_or picture (40 * y + x / 4) 0) (x % 4)
unfolding row_in
row_cell picture y x lt = get_or-map-range_with_len (λ x. shade_in (get_or picture (40 * y + x / 4) 0) (x % 4)) 0 160 x x 0 lt (omega arith)

row_length : (picture : List ℕ) (y : ℕ) → length (row_in picture y) ≡ 160
unfolding row_in
row_length picture y = length-map-range_with_len (λ x. shade_in (get_or picture (40 * y + x / 4) 0) (x % 4)) 0 160

pub row_is_row : (picture : List ℕ) (y : ℕ) → ((i : ℕ) → get_or picture i 0 < 256) → IsRow (row_in picture y)
row_is_row picture y fits = record {
  columns = row_length picture y;
  shades =
      λ x d lt.
      let within : x < 160 = omega (arith, row_length picture y) in
      let cell : get_or (row_in picture y) x d ≡ shade_in (get_or picture (40 * y + x / 4) 0) (x % 4) = get_or_default (row_in picture y) x d 0 lt ∙ row_cell picture y x within in
      rw cell (shade_small (get_or picture (40 * y + x / 4) 0) (x % 4) (fits (40 * y + x / 4)));
}

pub rows_length : (picture : List ℕ) → length (rows_in picture) ≡ 144
unfolding rows_in
rows_length picture = length-map-range_with_len (row_in picture) 0 144

pub rows_cell : (picture : List ℕ) (y : ℕ) (d : List ℕ) → y < 144 → get_or (rows_in picture) y d ≡ row_in picture y
unfolding rows_in
rows_cell picture y d lt = get_or-map-range_with_len (row_in picture) 0 144 y y d lt (omega arith)

pub rows_are_rows : (picture : List ℕ) → ((i : ℕ) → get_or picture i 0 < 256) → All IsRow (rows_in picture)
rows_are_rows picture fits y d lt =
    let within : y < 144 = omega (arith, rows_length picture) in
    rw (rows_cell picture y d within) (row_is_row picture y fits)

-- the rows that a loop has set one after another
pub rows_all : (picture : List ℕ) (rows : List (List ℕ)) → length rows ≡ 144 → ((y : ℕ) → y < 144 → get_or rows y [] ≡ row_in picture y) → rows ≡ rows_in picture
unfolding rows_in
rows_all picture rows long each = fill_by_all (row_in picture) rows 144 [] long each

-- ---- back and again

pub picture_length : (rows : List (List ℕ)) → length (picture_bytes rows) ≡ 5760
unfolding picture_bytes
picture_length rows = length-map-range_with_len (λ k. byte_of_four (get_or rows (k / 40) []) (k % 40)) 0 5760

picture_cell : (rows : List (List ℕ)) (k : ℕ) → k < 5760 → get_or (picture_bytes rows) k 0 ≡ byte_of_four (get_or rows (k / 40) []) (k % 40)
unfolding picture_bytes
picture_cell rows k lt = get_or-map-range_with_len (λ k. byte_of_four (get_or rows (k / 40) []) (k % 40)) 0 5760 k k 0 lt (omega arith)

-- the bytes of the rows of bytes
pub picture_again : (picture : List ℕ) → length picture ≡ 5760 → ((i : ℕ) → get_or picture i 0 < 256) → picture_bytes (rows_in picture) ≡ picture
unfolding picture_bytes
picture_again picture long fits =
    let cell : (k : ℕ) → k < 5760 → get_or picture k 0 ≡ byte_of_four (get_or (rows_in picture) (k / 40) []) (k % 40) =
    λ k lt.
    let y : k / 40 < 144 = omega arith in
    let at : (j : ℕ) → j < 4 → get_or (row_in picture (k / 40)) (4 * (k % 40) + j) 0 ≡ shade_in (get_or picture k 0) j =
    λ j small.
    let within : 4 * (k % 40) + j < 160 = omega arith in
    let byte : 40 * (k / 40) + (4 * (k % 40) + j) / 4 ≡ k = omega arith in
    let place : (4 * (k % 40) + j) % 4 ≡ j = omega arith in
    row_cell picture (k / 40) (4 * (k % 40) + j) within ∙ ap (λ (i : ℕ). shade_in (get_or picture i 0) ((4 * (k % 40) + j) % 4)) byte ∙ ap (shade_in (get_or picture k 0)) place in
    let zeroth : 4 * (k % 40) ≡ 4 * (k % 40) + 0 = omega arith in
    let first : get_or (row_in picture (k / 40)) (4 * (k % 40)) 0 ≡ shade_in (get_or picture k 0) 0 = ap (λ (i : ℕ). get_or (row_in picture (k / 40)) i 0) zeroth ∙ at 0 (omega arith) in
    sym (rw (rows_cell picture (k / 40) [] y, first, at 1 (omega arith), at 2 (omega arith), at 3 (omega arith)) (byte_again (get_or picture k 0) (fits k))) in
    sym (fill_by_all (λ k. byte_of_four (get_or (rows_in picture) (k / 40) []) (k % 40)) picture 5760 0 long cell)

row_back :
    (rows : List (List ℕ)) (y : ℕ) → length rows ≡ 144 → All IsRow rows → y < 144 → get_or rows y [] ≡ row_in (picture_bytes rows) y
unfolding row_in
row_back rows y long each lt =
    let row : List ℕ = get_or rows y [] in
    let legal : IsRow row = each y [] (omega (arith, long)) in
    let small : (x : ℕ) → get_or row x 0 < 4 =
    λ x. elim (cases_lt x (length row)) [ inl within ↦ legal.shades x 0 within | inr past ↦ rw (get_or_past row x 0 past) (omega arith) ] in
    let cell : (x : ℕ) → x < 160 → get_or row x 0 ≡ shade_in (get_or (picture_bytes rows) (40 * y + x / 4) 0) (x % 4) =
    λ x within.
    let byte : (40 * y + x / 4) / 40 ≡ y = omega arith in
    let place : (40 * y + x / 4) % 40 ≡ x / 4 = omega arith in
    let whole : 4 * (x / 4) + x % 4 ≡ x = omega arith in
    let packed : get_or (picture_bytes rows) (40 * y + x / 4) 0 ≡ byte_of_four row (x / 4) =
    picture_cell rows (40 * y + x / 4) (omega arith)
    ∙ ap (λ (i : ℕ). byte_of_four (get_or rows i []) ((40 * y + x / 4) % 40)) byte
    ∙ ap (byte_of_four row) place in
    sym (ap (λ (b : ℕ). shade_in b (x % 4)) packed ∙ place_back row (x / 4) (x % 4) small (omega arith) ∙ ap (λ (i : ℕ). get_or row i 0) whole) in
    fill_by_all (λ x. shade_in (get_or (picture_bytes rows) (40 * y + x / 4) 0) (x % 4)) row 160 0 legal.columns cell

-- the rows of the bytes of rows
pub rows_back : (rows : List (List ℕ)) → length rows ≡ 144 → All IsRow rows → rows_in (picture_bytes rows) ≡ rows
rows_back rows long each =
    let one : (y : ℕ) → y < 144 → get_or rows y [] ≡ row_in (picture_bytes rows) y = λ y lt. row_back rows y long each lt in
    sym (rows_all (picture_bytes rows) rows long one)

pub rows_each : (rows : List (List ℕ)) → length rows ≡ 144 → ((y : ℕ) → y < 144 → IsRow (get_or rows y [])) → All IsRow rows
rows_each rows long each y d lt =
    let same : get_or rows y [] ≡ get_or rows y d = get_or_default rows y [] d lt in
    subst (λ (row : List ℕ). IsRow row) same (each y (omega (arith, long)))
