-- What several writes in turn append.
use Rattle.std.proofs.Common.{◌∙◌, ℕ, ◌+◌, ◌≤◌, ◌<◌, List, [], ◌++◌, length, take, drop, None, Some, Option, ap, append_assoc, append-nil, subst, sym, arith, length-append}
use Rattle.std.proofs.Math.Seq.{take-add, take-append-add}
use Rattle.std.proofs.lemmas.List.{take-append-le}
use Rattle.std.specs.Io.KnownBytes.{Appends}
use Rattle.exact_text.specs.Written.{AppendsProperPrefix}

-- no write appends the empty text
pub appends_nothing : (a : Option (List ℕ)) → Appends a a []
appends_nothing None = tt
appends_nothing (Some p) = sym (append-nil p)

-- a text, and then another, are both together
pub appends_twice : (a b c : Option (List ℕ)) (xs ys : List ℕ) → Appends a b xs → Appends b c ys → Appends a c (xs ++ ys)
appends_twice None b c xs ys first second = tt
appends_twice (Some p) None c xs ys first second = absurd first
appends_twice (Some p) (Some q) None xs ys first second = absurd second
appends_twice (Some p) (Some q) (Some r) xs ys first second = second ∙ ap (λ t. t ++ ys) first ∙ append_assoc p xs ys

-- the first n bytes of a text, and then the first m of its rest, are its first n + m
pub appends_next_part : (a b c : Option (List ℕ)) (text : List ℕ) (n m : ℕ) → Appends a b (take n text) → Appends b c (take m (drop n text)) → Appends a c (take (n + m) text)
appends_next_part a b c text n m first second =
    subst (Appends a c) (sym (take-add n m text)) (appends_twice a b c (take n text) (take m (drop n text)) first second)

-- a whole text, and then a proper prefix of the next, are a proper prefix of both together
pub whole_then_prefix : (a b c : Option (List ℕ)) (xs ys : List ℕ) → Appends a b xs → AppendsProperPrefix b c ys → AppendsProperPrefix a c (xs ++ ys)
whole_then_prefix a b c xs ys first second = record {
  count = length xs + second.count;
  proper = omega (arith, length-append xs ys, second.proper);
  prefix = rw (take-append-add xs ys second.count) (appends_twice a b c xs (take second.count ys) first second.prefix);
}

-- a proper prefix of a text is one of the text and any other after it
pub prefix_of_longer : (a b : Option (List ℕ)) (xs ys : List ℕ) → AppendsProperPrefix a b xs → AppendsProperPrefix a b (xs ++ ys)
prefix_of_longer a b xs ys part =
    let within : part.count ≤ length xs = omega (arith, part.proper) in record {
      count = part.count;
      proper = omega (arith, length-append xs ys, part.proper);
      prefix = rw (take-append-le part.count xs ys within) part.prefix;
    }

-- a whole text is a proper prefix of it and a text after it that is not empty
pub whole_of_longer : (a b : Option (List ℕ)) (xs ys : List ℕ) → 0 < length ys → Appends a b xs → AppendsProperPrefix a b (xs ++ ys)
whole_of_longer a b xs ys more whole = whole_then_prefix a b b xs ys whole (record { count = 0; proper = more; prefix = appends_nothing b })
