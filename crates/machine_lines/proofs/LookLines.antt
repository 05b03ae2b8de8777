-- Lines of too many words.
use Rattle.std.proofs.Common.{◌≡◌, ◌==◌, ℕ, true, is_some, List, [], ◌∷◌, Bor, MatchOption, ap, Option, None, Some, refl, sym}
use Rattle.script.specs.Line.{words_of}
use Rattle.script.proofs.Words.{split_begins}
use Rattle.machine_lines.specs.Looks.{look_of}

-- how a text is cut at its first space
abbrev IsCutAt : List ℕ → List ℕ → Option (Bor (List ℕ)) → Type 0
IsCutAt text word rest = MatchOption rest (words_of text ≡ word ∷ []) (λ after. words_of text ≡ word ∷ words_of after.now)

pub too_many_words : (line name word other : List ℕ) (a b c : Option (Bor (List ℕ))) (x y : Bor (List ℕ)) → IsCutAt line name a → a ≡ Some x → IsCutAt x.now word b → b ≡ Some y → IsCutAt y.now other c
    → true ≡ is_some c → None ≡ look_of (words_of line)
too_many_words line name word other a b None x y p ea q eb r more = absurd (cc)
too_many_words line name word other a b (Some z) x y p ea q eb r more =
    let one = rw ea at p in
    let two = rw eb at q in
    let rest = split_begins (λ byte. byte == 32) z.now in
    let words : words_of line ≡ name ∷ word ∷ other ∷ rest.0 ∷ rest.1 = rw (one, two, r, rest.2) refl in
    sym (ap look_of words)
