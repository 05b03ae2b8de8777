-- What the getters of `clap` give of a command's operands.
use Rattle.std.proofs.Common.{◌≡◌, ◌∙◌, ◌<◌, ◌^◌, ℕ, Bool, true, false, true≢false, cond, drop, refl, sym, ap, subst, arith, List, [], ◌∷◌, ◌==◌, Option, Some, None, MatchOption, Result, Ok, IsSomeAnd, option_map, option_and_then, unwrap_or, find, slice_get, bytes_eq, pos}
use Rattle.std.specs.Prelude.{neg_ℤ}
use Rattle.std.specs.Str.Parse.{IsNumeral, ParsesUnsigned, digits_value, signed_digits_value, starts_with_minus, without_leading_plus}
use Rattle.std.proofs.lemmas.Bool.{ne_eqb}
use Rattle.std.proofs.lemmas.Int.{ints}
use Rattle.std.proofs.lemmas.Str.Parse.{digit_from_value}
use Rattle.clap.specs.Lexer.{without_minus}
use Rattle.clap.specs.Matches.{ReadsOne}
use Rattle.clap.specs.Values.{IsSignedIn, read_as}
use Rattle.clap.specs.Walk.{Row, first_of, one_of, row_text}
use Rattle.clap.proofs.CallerReads.{signed_reads}
use Rattle.command_line.specs.Commands.{Passes, PassesAs, given_at, number}
use Rattle.command_line.specs.Words.{Word, Writes, WritesWithin}

-- without its hyphen
without_minus-cond : (t : Word) → without_minus t ≡ cond (starts_with_minus t) (drop 1 t) t
without_minus-cond [] = refl
without_minus-cond (x ∷ xs) = go (x == 45)
  where
    go : (b : Bool) → unwrap_or (cond b (Some xs) None) (x ∷ xs) ≡ cond b xs (x ∷ xs)
    go true = refl
    go false = refl

no_plus : (ds : Word) → IsNumeral 10 ds → without_leading_plus ds ≡ ds
no_plus [] h = refl
no_plus (d ∷ ds) h =
    let plus : (d == 43) ≡ false = ne_eqb _ _ (λ e. omega (arith, digit_from_value d h.1.0)) in
    ap (λ (b : Bool). drop (cond b 1 0) (d ∷ ds)) plus

-- the number that a word writes, where it is one that `clap` lets through
value_of : (E : Type 0) (G : List ℕ → Result ℕ E → Type 0) (least most : ℕ) (word : Word) (n : ℕ) → ReadsOne G (without_minus word) (Some n)
    → ((u : List ℕ) (x : Result ℕ E) → G u x → ParsesUnsigned 32 10 u x) → IsSignedIn (pos least) (pos most) word → signed_digits_value 10 word ≡ pos n
value_of E G least most word n read only passed = go (starts_with_minus word) refl (subst (λ (u : List ℕ). ReadsOne G u (Some n)) (without_minus-cond word) read)
  where
    go : (b : Bool) → starts_with_minus word ≡ b → ReadsOne G (cond (starts_with_minus word) (drop 1 word) word) (Some n) → signed_digits_value 10 word ≡ pos n
    go true minus h =
        let low = rw minus at passed.2 in
        let numeral : IsNumeral 10 (drop 1 word) = rw minus at passed.0 in
        let parsed = only (drop 1 word) (Ok n) (rw minus at h) in
        let is : n ≡ digits_value 10 (drop 1 word) = parsed.1 ∙ ap (digits_value 10) (no_plus (drop 1 word) numeral) in
        let none : digits_value 10 (drop 1 word) ≡ 0 = omega (arith, ints) in
        rw minus (ap (λ (k : ℕ). neg_ℤ (pos k)) none ∙ ap pos (sym none ∙ sym is))
    go false minus h =
        let parsed = only word (Ok n) (rw minus at h) in
        rw minus (ap pos (sym parsed.1))

pub number_is : (E : Type 0) (G : List ℕ → Result ℕ E → Type 0) (least most : ℕ) (word : Word) (r : Option ℕ) → ReadsOne G (without_minus word) r
    → ((u : List ℕ) (x : Result ℕ E) → G u x → ParsesUnsigned 32 10 u x) → most < 2 ^ 32 → IsSignedIn (pos least) (pos most) word
    → IsSomeAnd r (WritesWithin least most word)
number_is E G least most word r read only small passed =
    let got = signed_reads E G 32 least most word r read only small passed in
    let writes : Writes word got.0 = (passed.0, value_of E G least most word got.0 (subst (ReadsOne G (without_minus word)) got.1 read) only passed) in
    subst (λ (o : Option ℕ). IsSomeAnd o (WritesWithin least most word)) (sym got.1) (writes, got.2, got.3)

-- what was left out has no text that a typed getter reads
pub no_text : (id : Word) (rows : List Row) → first_of id rows ≡ None → one_of id rows ≡ None
no_text id rows none = go (find (λ (r : Row). bytes_eq r.id id) rows) none
  where
    go : (o : Option Row) → option_and_then (λ (r : Row). slice_get r.values 0) o ≡ None → option_and_then row_text o ≡ None
    go None e = refl
    go (Some r) e = ap (option_map (read_as r.reading)) e

pub required_number : (id : Word) (rows : List Row) (least most : ℕ) (o : Option ℕ) → ((given : Word) → PassesAs (number id least most) rows given → IsSomeAnd o (WritesWithin least most given))
    → Passes rows (number id least most) → WritesWithin least most (given_at id rows) (unwrap_or o 0)
required_number id rows least most o reads passes = go (first_of id rows) passes
  where
    there : (given : Word) (p : Option ℕ) → IsSomeAnd p (WritesWithin least most given) → WritesWithin least most given (unwrap_or p 0)
    there given None within = absurd within
    there given (Some n) within = within

    go : (f : Option Word) → MatchOption f (true ≡ false) (PassesAs (number id least most) rows) → WritesWithin least most (unwrap_or f []) (unwrap_or o 0)
    go None missing = absurd (true≢false missing)
    go (Some given) passing = there given o (reads given passing)
