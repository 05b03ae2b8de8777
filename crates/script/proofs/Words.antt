-- A line of more than three words is wrong.
use Rattle.std.proofs.Common.{◌≡◌, ℕ, ◌==◌, Bool, true, false, List, [], ◌∷◌, Option, None, Some, MatchOption, Bor, ap, cond, refl, sym}
use Rattle.std.specs.List.{onto_first, slice_split}
use Rattle.script.specs.Line.{move_of_line, move_of_words, words_of}

abbrev pub IsCut : List ℕ → List ℕ → Option (Bor (List ℕ)) → Type 0
IsCut line word rest = MatchOption rest (words_of line ≡ word ∷ []) (λ after. words_of line ≡ word ∷ words_of after.now)

abbrev pub Begins : List (List ℕ) → Type 0
Begins parts = (first : List ℕ) × (others : List (List ℕ)) × (parts ≡ first ∷ others)

onto_begins : (x : ℕ) (parts : List (List ℕ)) → Begins (onto_first x parts)
onto_begins x [] = (x ∷ [], [], refl)
onto_begins x (part ∷ parts) = (x ∷ part, parts, refl)

cond_begins : (t : Bool) (parts : List (List ℕ)) (x : ℕ) → Begins (cond t ([] ∷ parts) (onto_first x parts))
cond_begins true parts x = ([], parts, refl)
cond_begins false parts x = onto_begins x parts

pub split_begins : (p : ℕ → Bool) (xs : List ℕ) → Begins (slice_split p xs)
split_begins p [] = ([], [], refl)
split_begins p (x ∷ xs) = cond_begins (p x) (slice_split p xs) x

pub too_many_words : (line first second third : List ℕ) (a b c : Option (Bor (List ℕ))) (x y z : Bor (List ℕ)) →
    IsCut line first a → a ≡ Some x → IsCut x.now second b → b ≡ Some y → IsCut y.now third c → c ≡ Some z → None ≡ move_of_line line
too_many_words line first second third a b c x y z p ea q eb r ec =
    let one = rw ea at p in
    let two = rw eb at q in
    let three = rw ec at r in
    let more = split_begins (λ byte. byte == 32) z.now in
    let words : words_of line ≡ first ∷ second ∷ third ∷ more.0 ∷ more.1 = rw (one, two, three, more.2) refl in
    sym (ap move_of_words words)
