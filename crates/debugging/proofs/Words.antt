-- The words of a line: conditions, one after another.
use Rattle.std.proofs.Common.{◌≡◌, ◌<◌, ◌≤◌, ℕ, ◌++◌, Bool, true, false, List, [], ◌∷◌, Option, None, Some, is_some, Bor, MatchOption, ap, sym, refl, append_assoc, arith, length, length-append}
use Rattle.std.specs.Prelude.{◌==◌, ◌&&◌, codes, nat_le}
use Rattle.std.proofs.lemmas.Bool.{lt-leb}
use Rattle.std.specs.Str.{bytes_eq}
use Rattle.script.proofs.Words.{split_begins}
use Rattle.std.specs.List.{slice_split}
use Rattle.script.specs.Line.{words_of}
use Rattle.debugging.specs.declared.order.Condition.{Condition}
use Rattle.debugging.specs.Orders.{both, if_few, order_of_words, place_by, place_of, restore_of_words, span_by, span_in, state_order_of_words}

-- ---- conditions

-- conditions that were read, and then the rest, if it is read
abbrev pub onto : List Condition → Option (List Condition) → Option (List Condition)
onto first None = None
onto first (Some rest) = Some (first ++ rest)

pub onto_more : (first : List Condition) (one : Condition) (rest : Option (List Condition)) → onto first (both (Some one) rest) ≡ onto (first ++ one ∷ []) rest
onto_more first one None = refl
onto_more first one (Some rest) = ap Some (sym (append_assoc first (one ∷ []) rest))

and_not : (b : Bool) → (b && false) ≡ false
and_not true = refl
and_not false = refl

-- sixteen conditions, and one more
pub too_many_conditions : (least : ℕ) (first : List Condition) (one : Condition) (rest all : Option (List Condition)) → all ≡ onto first (both (Some one) rest) → 16 ≤ length first → None ≡ if_few least all
too_many_conditions least first one None all is full = sym (ap (if_few least) is)
too_many_conditions least first one (Some rest) all is full =
    let more : 16 < length (first ++ one ∷ rest) = omega (arith, full, length-append first (one ∷ rest)) in
    let most : nat_le (length (first ++ one ∷ rest)) 16 ≡ false = lt-leb _ _ more in
    let none : (nat_le least (length (first ++ one ∷ rest)) && nat_le (length (first ++ one ∷ rest)) 16) ≡ false = rw most (and_not _) in
    rw (is, none) refl

-- how a text is cut at its first space
abbrev pub IsCutAt : List ℕ → List ℕ → Option (Bor (List ℕ)) → Type 0
IsCutAt text word rest = MatchOption rest (words_of text ≡ word ∷ []) (λ after. words_of text ≡ word ∷ words_of after.now)

-- ---- a place of too many parts

-- how a text is cut at its first colon
abbrev IsParted : List ℕ → List ℕ → Option (Bor (List ℕ)) → Type 0
IsParted text part rest =
    MatchOption rest (slice_split (λ byte. byte == 58) text ≡ part ∷ []) (λ after. slice_split (λ byte. byte == 58) text ≡ part ∷ slice_split (λ byte. byte == 58) after.now)

-- how a text is cut at its first dash
abbrev IsEnded : List ℕ → List ℕ → Option (Bor (List ℕ)) → Type 0
IsEnded text part rest =
    MatchOption rest (slice_split (λ byte. byte == 45) text ≡ part ∷ []) (λ after. slice_split (λ byte. byte == 45) text ≡ part ∷ slice_split (λ byte. byte == 45) after.now)

pub too_many_parts : (text first second : List ℕ) (a b : Option (Bor (List ℕ))) (x : Bor (List ℕ)) → IsParted text first a → a ≡ Some x → IsParted x.now second b
    → true ≡ is_some b → None ≡ place_of text
too_many_parts text first second a None x p ea q more = absurd (cc)
too_many_parts text first second a (Some y) x p ea q more =
    let one = rw ea at p in
    let rest = split_begins (λ byte. byte == 58) y.now in
    let parts : slice_split (λ byte. byte == 58) text ≡ first ∷ second ∷ rest.0 ∷ rest.1 = rw (one, q, rest.2) refl in
    sym (ap place_by parts)

pub too_many_ends : (text first second : List ℕ) (a b : Option (Bor (List ℕ))) (x : Bor (List ℕ)) → IsEnded text first a → a ≡ Some x → IsEnded x.now second b
    → true ≡ is_some b → None ≡ span_in text
too_many_ends text first second a None x p ea q more = absurd (cc)
too_many_ends text first second a (Some y) x p ea q more =
    let one = rw ea at p in
    let rest = split_begins (λ byte. byte == 45) y.now in
    let parts : slice_split (λ byte. byte == 45) text ≡ first ∷ second ∷ rest.0 ∷ rest.1 = rw (one, q, rest.2) refl in
    sym (ap span_by parts)

-- ---- a line of too many words

pub too_many_words : (line name word other last : List ℕ) (a b c d : Option (Bor (List ℕ))) (x y z t : Bor (List ℕ)) →
    IsCutAt line name a → a ≡ Some x → IsCutAt x.now word b → b ≡ Some y → IsCutAt y.now other c → c ≡ Some z → IsCutAt z.now last d → d ≡ Some t
    → bytes_eq name (codes "until") ≡ false → bytes_eq name (codes "continue") ≡ false → None ≡ order_of_words (words_of line)
too_many_words line name word other last a b c d x y z t p ea q eb r ec s ed differs other_too =
    let one = rw ea at p in
    let two = rw eb at q in
    let three = rw ec at r in
    let four = rw ed at s in
    let more = split_begins (λ byte. byte == 32) t.now in
    let words : words_of line ≡ name ∷ word ∷ other ∷ last ∷ more.0 ∷ more.1 = rw (one, two, three, four, more.2) refl in
    rw (words, differs, other_too) refl

pub restore_too_many : (line name word : List ℕ) (a b : Option (Bor (List ℕ))) (x : Bor (List ℕ)) → IsCutAt line name a → a ≡ Some x → IsCutAt x.now word b
    → true ≡ is_some b → None ≡ restore_of_words (words_of line)
restore_too_many line name word a None x p ea q more = absurd (cc)
restore_too_many line name word a (Some y) x p ea q more =
    let one = rw ea at p in
    let rest = split_begins (λ byte. byte == 32) y.now in
    let words : words_of line ≡ name ∷ word ∷ rest.0 ∷ rest.1 = rw (one, q, rest.2) refl in
    sym (ap restore_of_words words)

pub state_too_many : (line name word : List ℕ) (a b : Option (Bor (List ℕ))) (x : Bor (List ℕ)) → IsCutAt line name a → a ≡ Some x → IsCutAt x.now word b
    → true ≡ is_some b → bytes_eq name (codes "profile") ≡ false → None ≡ state_order_of_words (words_of line)
state_too_many line name word a None x p ea q more differs = absurd (cc)
state_too_many line name word a (Some y) x p ea q more differs =
    let one = rw ea at p in
    let rest = split_begins (λ byte. byte == 32) y.now in
    let words : words_of line ≡ name ∷ word ∷ rest.0 ∷ rest.1 = rw (one, q, rest.2) refl in
    rw (words, differs) refl
