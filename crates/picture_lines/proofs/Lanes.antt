-- What the lanes compute: the colours of two planes, and the shades of a palette.
use Rattle.std.proofs.Common.{◌≡◌, ℕ, ◌+◌, ◌*◌, ◌/◌, ◌%◌, ◌^◌, ◌<◌, List, [], ◌∷◌, length, map, bit_and, refl, ap, arith, zero, suc, zero-add, ◌++◌, ◌≤◌, take, drop, get_or, set, sym, ◌∙◌}
use Rattle.std.specs.Prelude.{replicate, All, slice_index}
use mir.Syntax.{w8}
use Rattle.std.proofs.lemmas.Simd.{Each1-from_get_or, SwzOk, SwzOk-from_below, swz_l, length-swz_l, get_or-swz_l_below}
use Rattle.std.proofs.lemmas.List.{get_or-map, length-map}
use Rattle.std.proofs.lemmas.Grind.{same_number_lists}
use Rattle.std.proofs.lemmas.Nat.{and_mask}
use Rattle.std.proofs.lemmas.List.Elements.{All-take, All-drop}
use Rattle.std.proofs.Math.Nat.{suc-add}
use lib.Lanes.{zip2, Each1, Each2, chunk, put_chunk}
use Rattle.picture_lines.specs.Bits.{shade_of}

pub lane_colour : (low high d : ℕ) → ((bit_and (high / d) 1 + bit_and (high / d) 1) % 256 + bit_and (low / d) 1) % 256 ≡ 2 * (high / d % 2) + low / d % 2
lane_colour low high d = rw (and_mask (high / d) 1, and_mask (low / d) 1) (omega arith)

shaded_is : (p x : ℕ) → x < 4 → bit_and (p / 2 ^ ((x + x) % 256)) 3 ≡ shade_of p x
unfolding shade_of
shaded_is p x small =
    let twice : (x + x) % 256 ≡ 2 * x = omega arith
    in rw (twice, and_mask (p / 2 ^ (2 * x)) 2)

pub lane_shades : (p : ℕ) (xs : List ℕ) → Each1 (λ x. x < 4) xs → zip2 (λ a b. bit_and a b) (zip2 (λ a b. a / 2 ^ b) (replicate (length xs) p) (zip2 (λ a b. (a + b) % 256) xs xs)) (replicate (length xs) 3) ≡ map (shade_of p) xs
lane_shades p [] small = refl
lane_shades p (x ∷ xs) small = let here = shaded_is p x small.0 in let rest = lane_shades p xs small.1 in cc

pub lane_shifts : (p : ℕ) (xs : List ℕ) → Each1 (λ x. x < 4) xs → Each2 (λ a b. b < 8) (replicate (length xs) p) (zip2 (λ a b. (a + b) % 256) xs xs)
lane_shifts p [] small = tt
lane_shifts p (x ∷ xs) small = (let here : x < 4 = small.0 in omega arith, lane_shifts p xs small.1)

-- the first `at` numbers of a list replaced by f of them
unfoldable pub front_mapped : (ℕ → ℕ) → ℕ → List ℕ → List ℕ
front_mapped f at xs = map f (take at xs) ++ drop at xs

pub length-front_mapped : (f : ℕ → ℕ) (at : ℕ) (xs : List ℕ) → length (front_mapped f at xs) ≡ length xs
unfolding front_mapped
length-front_mapped f zero xs = refl
length-front_mapped f (suc at) [] = refl
length-front_mapped f (suc at) (x ∷ xs) = ap suc (length-front_mapped f at xs)

pub drop-front_mapped : (f : ℕ → ℕ) (at : ℕ) (xs : List ℕ) → drop at (front_mapped f at xs) ≡ drop at xs
unfolding front_mapped
drop-front_mapped f zero xs = refl
drop-front_mapped f (suc at) [] = refl
drop-front_mapped f (suc at) (x ∷ xs) = drop-front_mapped f at xs

put_front : (f : ℕ → ℕ) (n : ℕ) (xs : List ℕ) → put_chunk 0 xs (map f (take n xs)) ≡ map f (take n xs) ++ drop n xs
put_front f zero [] = refl
put_front f zero (x ∷ xs) = refl
put_front f (suc n) [] = refl
put_front f (suc n) (x ∷ xs) = ap (λ ys. f x ∷ ys) (put_front f n xs)

pub front_mapped-block : (f : ℕ → ℕ) (at n : ℕ) (xs : List ℕ) → put_chunk at (front_mapped f at xs) (map f (chunk at n (front_mapped f at xs))) ≡ front_mapped f (at + n) xs
unfolding front_mapped
front_mapped-block f zero n xs = rw zero-add (put_front f n xs)
front_mapped-block f (suc at) n [] = rw suc-add refl
front_mapped-block f (suc at) n (x ∷ xs) = rw suc-add (ap (λ ys. f x ∷ ys) (front_mapped-block f at n xs))

pub front_mapped-one : (f : ℕ → ℕ) (at : ℕ) (xs : List ℕ) → at < length xs → set (front_mapped f at xs) at (f (get_or xs at 0)) ≡ front_mapped f (at + 1) xs
unfolding front_mapped
front_mapped-one f zero [] within = absurd (omega arith)
front_mapped-one f zero (x ∷ xs) within = refl
front_mapped-one f (suc at) [] within = absurd (omega arith)
front_mapped-one f (suc at) (x ∷ xs) within =
    let room : at < length xs = omega arith
    in rw suc-add (ap (λ ys. f x ∷ ys) (front_mapped-one f at xs room))

-- what stands at the place that comes next
pub get_or-front_mapped : (f : ℕ → ℕ) (at : ℕ) (xs : List ℕ) → at < length xs → get_or (front_mapped f at xs) at 0 ≡ get_or xs at 0
unfolding front_mapped
get_or-front_mapped f zero xs within = refl
get_or-front_mapped f (suc at) [] within = refl
get_or-front_mapped f (suc at) (x ∷ xs) within = let room : at < length xs = omega arith in get_or-front_mapped f at xs room

pub front_mapped-none : (f : ℕ → ℕ) (xs : List ℕ) → xs ≡ front_mapped f 0 xs
unfolding front_mapped
front_mapped-none f xs = refl

pub front_mapped-all : (f : ℕ → ℕ) (at : ℕ) (xs : List ℕ) → length xs ≤ at → front_mapped f at xs ≡ map f xs
unfolding front_mapped
front_mapped-all f zero [] over = refl
front_mapped-all f zero (x ∷ xs) over = absurd (omega arith)
front_mapped-all f (suc at) [] over = refl
front_mapped-all f (suc at) (x ∷ xs) over =
    let rest : length xs ≤ at = omega arith
    in ap (λ ys. f x ∷ ys) (front_mapped-all f at xs rest)

-- for `grind`: the steps of a loop that maps in place
pub ruleset mapping = (length-front_mapped, drop-front_mapped, front_mapped-block, front_mapped-one, get_or-front_mapped, front_mapped-none, front_mapped-all)

pub front_mapped-small : (f : ℕ → ℕ) (at n : ℕ) (xs ys : List ℕ) → ys ≡ front_mapped f at xs → All (λ x. x < 4) xs → All (λ x. x < 4) (chunk at n ys)
front_mapped-small f at n xs ys same small =
    rw (same, drop-front_mapped) (All-take (λ x. x < 4) n (drop at xs) (All-drop (λ x. x < 4) at xs small))

-- ---- shades by their places in a table

pub shades_table : (p colour : ℕ) (rest : List ℕ) → p < 256 → colour < 4 → slice_index (p % 4 ∷ p / 4 % 4 ∷ p / 16 % 4 ∷ p / 64 ∷ rest) colour ≡ shade_of p colour
unfolding shade_of
shades_table p zero rest byte below = omega arith
shades_table p (suc zero) rest byte below = omega arith
shades_table p (suc (suc zero)) rest byte below = omega arith
shades_table p (suc (suc (suc zero))) rest byte below = omega arith
shades_table p (suc (suc (suc (suc n)))) rest byte below = absurd (omega arith)

pub places_fit : (xs : List ℕ) → length xs ≡ 16 → All (λ x. x < 4) xs → SwzOk w8 16 16 0 xs
places_fit xs size small =
    SwzOk-from_below w8 16 1 16 0 xs (omega arith) (omega (arith, size)) (Each1-from_get_or (λ x. x < 16) xs 0 (λ i h. let here = small i 0 h in omega (arith, here)))

pub shades_by_places : (p : ℕ) (table xs : List ℕ) → length xs ≡ 16 → ((colour : ℕ) → colour < 4 → slice_index table colour ≡ shade_of p colour)
    → All (λ x. x < 4) xs → swz_l w8 16 table 0 xs ≡ map (shade_of p) xs
shades_by_places p table xs size shades small =
    same_number_lists (swz_l w8 16 table 0 xs) (map (shade_of p) xs) (length-swz_l w8 16 table 0 xs ∙ sym (length-map xs (shade_of p)))
    (λ k h.
    let within : k < length xs = rw length-swz_l at h in
    let colour = get_or xs k 0 in
    let here : colour < 4 = small k 0 within in
    let place : 16 * ((0 + k) / 16) + colour ≡ colour = omega (arith, size, within) in
    get_or-swz_l_below w8 16 table 0 xs k within (omega (arith, here))
    ∙ ap (λ (i : ℕ). get_or table i 0) place
    ∙ shades colour here
    ∙ sym (get_or-map (shade_of p) xs k 0 0 within))
