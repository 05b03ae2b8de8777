-- The first newline.
use Rattle.std.proofs.Common.{◌≡◌, inl, inr, ℕ, ◌+◌, ◌<◌, ◌≤◌, ◌==◌, Bool, true, false, not, ltb, cond, List, [], ◌∷◌, ◌++◌, length, get_or, None, Some, refl, sym, ap, ◌∙◌, subst, arith, append_assoc}
use Rattle.std.specs.List.{position, position_or_len}
use Rattle.std.proofs.lemmas.Bool.{cases_Bool, ltb-true, ltb-false, eqb-true, eqb-false}
use Rattle.std.proofs.lemmas.List.{take_all, drop_all, get_or-take, length-take-le}
use Rattle.std.proofs.lemmas.List.Sums.{fails_before_first, passes_at_first, split_at_first}
use Rattle.input_lines.specs.Newlines.{HasNoNewline, first_line, behind_first_line}

abbrev is_newline : ℕ → Bool
is_newline byte = byte == 10

some_of : (t : Bool) (n i : ℕ) → cond t (Some n) None ≡ Some i → (t ≡ true) × (n ≡ i)
some_of true n i e = (refl, cc)
some_of false n i e = cc

none_of : (t : Bool) (n : ℕ) → cond t (Some n) None ≡ None → t ≡ false
none_of true n e = cc
none_of false n e = refl

pub found_at : (bytes : List ℕ) (i : ℕ) → position (λ byte. byte == 10) bytes ≡ Some i → i ≡ position_or_len (λ byte. byte == 10) bytes
found_at bytes i e = sym (some_of _ (position_or_len is_newline bytes) i e).1

pub short : (p : ℕ → Bool) (bytes : List ℕ) → position_or_len p bytes ≤ length bytes
short p [] = omega arith
short p (x ∷ bytes) = by (p x) (short p bytes)
  where
    by : (t : Bool) → position_or_len p bytes ≤ length bytes → cond (not t) (1 + position_or_len p bytes) 0 ≤ length (x ∷ bytes)
    by true le = omega arith
    by false le = omega arith

pub found_nowhere : (bytes : List ℕ) → position (λ byte. byte == 10) bytes ≡ None → length bytes ≡ position_or_len (λ byte. byte == 10) bytes
found_nowhere bytes e =
    let above = ltb-false _ _ (none_of _ (position_or_len is_newline bytes) e) in
    let within = short is_newline bytes in
    omega (arith, above, within)

-- there is none before it
pub no_newline : (bytes : List ℕ) → HasNoNewline (first_line bytes)
no_newline bytes = λ k d less.
    let at = position_or_len is_newline bytes in
    let below : k < at = omega (arith, less, length-take-le at bytes (short is_newline bytes)) in
    λ is. eqb-false (get_or bytes k d) 10 (fails_before_first is_newline bytes k d below) (sym (get_or-take at bytes k d below) ∙ is)

-- a line, its newline, and the rest
pub cut_there : (bytes : List ℕ) → position_or_len (λ byte. byte == 10) bytes < length bytes → bytes ≡ (first_line bytes ++ 10 ∷ []) ++ behind_first_line bytes
cut_there bytes less =
    let split = split_at_first is_newline bytes 0 less in
    let newline : get_or bytes (position_or_len is_newline bytes) 0 ≡ 10 = eqb-true _ _ (passes_at_first is_newline bytes 0 less) in
    split ∙ ap (λ (b : ℕ). first_line bytes ++ b ∷ behind_first_line bytes) newline ∙ sym (append_assoc (first_line bytes) (10 ∷ []) (behind_first_line bytes))

pub all_of_it : (bytes : List ℕ) → position_or_len (λ byte. byte == 10) bytes ≡ length bytes → first_line bytes ≡ bytes
all_of_it bytes all = take_all (position_or_len is_newline bytes) bytes (omega (arith, all))

pub nothing_behind : (bytes : List ℕ) → position_or_len (λ byte. byte == 10) bytes ≡ length bytes → behind_first_line bytes ≡ []
nothing_behind bytes all = drop_all (position_or_len is_newline bytes + 1) bytes (omega (arith, all))

pub no_newline_at_all : (bytes : List ℕ) → position_or_len (λ byte. byte == 10) bytes ≡ length bytes → HasNoNewline bytes
no_newline_at_all bytes all = subst HasNoNewline (all_of_it bytes all) (no_newline bytes)

-- it is there, or the bytes are all of one line
pub is_there : (bytes : List ℕ) → (position_or_len (λ byte. byte == 10) bytes ≡ length bytes → ⊥) → position_or_len (λ byte. byte == 10) bytes < length bytes
is_there bytes other = let within = short is_newline bytes in elim (cases_Bool (ltb (position_or_len is_newline bytes) (length bytes))) [
  | inl is ↦ ltb-true _ _ is
  | inr is ↦ let above = ltb-false _ _ is in absurd (other (omega (arith, above, within)))
]

pub some_bytes : (bytes : List ℕ) → (length bytes ≡ 0 → ⊥) → 0 < length bytes
some_bytes [] some = absurd (some refl)
some_bytes (b ∷ bytes) some = omega arith

-- by lengths that were counted
pub found_by_length : (bytes seen : List ℕ) (size all : ℕ) → seen ≡ bytes → size ≡ position_or_len (λ byte. byte == 10) seen → all ≡ length bytes → size < all → position_or_len (λ byte. byte == 10) bytes < length bytes
found_by_length bytes seen size all is size_is all_is less =
    let at : size ≡ position_or_len is_newline bytes = size_is ∙ ap (position_or_len is_newline) is in
    omega (arith, at, all_is, less)

pub nowhere_by_length : (bytes seen : List ℕ) (size all : ℕ) → seen ≡ bytes → size ≡ position_or_len (λ byte. byte == 10) seen → all ≡ length bytes → all ≤ size → position_or_len (λ byte. byte == 10) bytes ≡ length bytes
nowhere_by_length bytes seen size all is size_is all_is above =
    let at : size ≡ position_or_len is_newline bytes = size_is ∙ ap (position_or_len is_newline) is in
    let within = short is_newline bytes in
    omega (arith, at, all_is, above, within)
