-- Lines and the bytes behind them, taken one after another.
use Rattle.std.proofs.Common.{◌≡◌, ◌⊎◌, inl, inr, ℕ, ◌<◌, ◌≤◌, List, [], ◌∷◌, ◌++◌, length, Option, None, refl, sym, ap, ◌∙◌, subst, arith, append_assoc, append-nil, length-append}
use Rattle.std.specs.Io.KnownBytes.{Consumes, IsAtEnd}
use Rattle.std.proofs.KnownBytes.{Consumes-trans}
use Rattle.std.specs.List.{All}
use Rattle.std.proofs.lemmas.List.Elements.{All-nil, All-push}
use Rattle.input_lines.specs.Newlines.{HasNoNewline}
use Rattle.input_lines.specs.Reading.{left_of, TakesLine}
use Rattle.input_lines.specs.Given.{Given, text_of, texts_of, IsWhole, IsPart, IsUnfinished, HasReadGiven, TakesGiven, EndsWithin, HasTakenGiven}
use Rattle.input_lines.proofs.KnownLeft.{left_read, nothing_left}
use Rattle.input_lines.proofs.Takings.{at_end, consumes_at_end, unknown, not_nothing}

pub texts_more : (all : List Given) (given : Given) → texts_of (all ++ given ∷ []) ≡ texts_of all ++ text_of given
texts_more [] given = append-nil (text_of given)
texts_more (first ∷ all) given = ap (λ (l : List ℕ). text_of first ++ l) (texts_more all given) ∙ sym (append_assoc (text_of first) (texts_of all) (text_of given))

some_text : (given : Given) → 0 < length (text_of given)
some_text given = omega (arith, length-append given.line (10 ∷ given.bytes))

-- ---- one

text_joined : (line bytes : List ℕ) → (line ++ 10 ∷ []) ++ bytes ≡ line ++ (10 ∷ bytes)
text_joined line bytes = append_assoc line (10 ∷ []) bytes

-- a line, and then all the bytes that it asks for
pub takes_given : (asked : List ℕ → ℕ) (line bytes : List ℕ) (old mid new : Option (List ℕ)) → HasNoNewline line → length bytes ≡ asked line → TakesLine line old mid → Consumes mid new bytes
    → TakesGiven asked (record { line = line; bytes = bytes }) old new
takes_given asked line bytes old mid new one all (inl took) next =
    ((one, all), inl (subst (Consumes old new) (text_joined line bytes) (Consumes-trans old mid new (line ++ 10 ∷ []) bytes took next)))
takes_given asked line bytes old mid new one all (inr took) next = elim (at_end old mid new line bytes took.1 took.2 next) [
  | inl none ↦ ((one, all), inl (unknown _ _ _ none))
  | inr behind ↦ ((one, all), inr (behind.0, took.0, behind.1, behind.2))
]

-- fewer, up to the end
pub ends_within : (asked : List ℕ → ℕ) (line bytes : List ℕ) (old mid new : Option (List ℕ)) → HasNoNewline line → length bytes ≤ asked line → TakesLine line old mid → Consumes mid new bytes → IsAtEnd new
    → EndsWithin asked (record { line = line; bytes = bytes }) old new
ends_within asked line bytes old mid new one few (inl took) next is_end =
    ((one, few), inl (subst (Consumes old new) (text_joined line bytes) (Consumes-trans old mid new (line ++ 10 ∷ []) bytes took next)), is_end)
ends_within asked line bytes old mid new one few (inr took) next is_end = elim (at_end old mid new line bytes took.1 took.2 next) [
  | inl none ↦ ((one, few), inl (unknown _ _ _ none), is_end)
  | inr behind ↦ ((one, few), inr (behind.0, took.0, behind.1), is_end)
]

-- fewer, up to a read that failed
pub unfinished : (asked : List ℕ → ℕ) (line bytes : List ℕ) (old mid new : Option (List ℕ)) → HasNoNewline line → length bytes < asked line → TakesLine line old mid → Consumes mid new bytes
    → (rest : List ℕ) × IsUnfinished asked rest × Consumes old new rest
unfinished asked line bytes old mid new one few (inl took) next =
    (line ++ (10 ∷ bytes), inr (record { line = line; bytes = bytes }, one, few, refl), subst (Consumes old new) (text_joined line bytes) (Consumes-trans old mid new (line ++ 10 ∷ []) bytes took next))
unfinished asked line bytes old mid new one few (inr took) next = elim (at_end old mid new line bytes took.1 took.2 next) [
  | inl none ↦ (line, inl one, unknown _ _ _ none)
  | inr behind ↦ (line, inl one, behind.1)
]

-- ---- so far

module _ (asked : List ℕ → ℕ) where
  pub given_none : (a : Option (List ℕ)) (unread : List ℕ) → unread ≡ [] → HasTakenGiven asked [] a (left_of unread a)
  given_none a unread none = (All-nil (IsWhole asked), inl (subst (λ (l : List ℕ). Consumes a (left_of l a) []) (sym none) (nothing_left a)))

  -- what is taken behind the end is nothing, or nothing is known
  given_behind : (all : List Given) (given : Given) (a b c : Option (List ℕ)) (text next : List ℕ) → 0 < length next → Consumes a b text → IsAtEnd b → Consumes b c next → a ≡ None
  given_behind all given a b c text next some took is_end more = elim (at_end a b c text next took is_end more) [
    | inl none ↦ none
    | inr behind ↦ absurd (not_nothing next some behind.0)
  ]

  pub given_more : (all : List Given) (given : Given) (a b c : Option (List ℕ)) → HasTakenGiven asked all a b → TakesGiven asked given b c → HasTakenGiven asked (all ++ given ∷ []) a c
  given_more all given a b c (whole, inl took) (one, inl next) =
      (All-push (IsWhole asked) all given whole one, inl (subst (Consumes a c) (sym (texts_more all given)) (Consumes-trans a b c (texts_of all) (text_of given) took next)))
  given_more all given a b c (whole, inl took) (one, inr next) = (
    All-push (IsWhole asked) all given whole one,
    inr (
      texts_of all ++ given.line,
      record { first = all; last = given; is = refl; whole = whole; part = (one.0, omega (arith, one.1)); ends = inr (next.0, refl) },
      Consumes-trans a b c (texts_of all) given.line took next.2,
      next.3,
    ),
  )
  given_more all given a b c (whole, inr took) (one, inl next) =
      (All-push (IsWhole asked) all given whole one, inl (unknown _ _ _ (given_behind all given a b c took.0 (text_of given) (some_text given) took.2 took.3 next)))
  given_more all given a b c (whole, inr took) (one, inr next) =
      (All-push (IsWhole asked) all given whole one, inl (unknown _ _ _ (given_behind all given a b c took.0 given.line next.1 took.2 took.3 next.2)))

  -- ---- to the end

  -- where no more is taken
  pub given_left : (all : List Given) (unread : List ℕ) (a b : Option (List ℕ)) → HasTakenGiven asked all a (left_of unread b) → HasReadGiven asked all unread a b
  given_left all unread a b (whole, inl took) = inl (whole, left_read a unread b (texts_of all) took)
  given_left all unread a b (whole, inr took) = elim (consumes_at_end a unread b took.0 took.2 took.3) [
    | inl none ↦ inl (whole, unknown _ _ _ none)
    | inr behind ↦ inr (took.0, took.1, behind.0, behind.1, behind.2)
  ]

  -- to the end, or to a read that failed
  pub given_rest : (all : List Given) (rest : List ℕ) (a b c : Option (List ℕ)) → HasTakenGiven asked all a b → Consumes b c rest → HasReadGiven asked all rest a c
  given_rest all rest a b c (whole, inl took) next = inl (whole, Consumes-trans a b c (texts_of all) rest took next)
  given_rest all rest a b c (whole, inr took) next = elim (at_end a b c took.0 rest took.2 took.3 next) [
    | inl none ↦ inl (whole, unknown _ _ _ none)
    | inr behind ↦ inr (took.0, took.1, behind.0, behind.1, behind.2)
  ]

  cut_off : (all : List Given) (given : Given) (a c : Option (List ℕ)) (text : List ℕ) → All (IsWhole asked) all → IsPart asked given
      → (text ≡ texts_of all ++ text_of given) ⊎ ((given.bytes ≡ []) × (text ≡ texts_of all ++ given.line)) → Consumes a c text → IsAtEnd c → HasReadGiven asked (all ++ given ∷ []) [] a c
  cut_off all given a c text whole part ends took is_end =
      inr (text, record { first = all; last = given; is = refl; whole = whole; part = part; ends = ends }, refl, took, is_end)

  -- the input ended within the last one
  pub given_last : (all : List Given) (given : Given) (a b c : Option (List ℕ)) → HasTakenGiven asked all a b → EndsWithin asked given b c → HasReadGiven asked (all ++ given ∷ []) [] a c
  given_last all given a b c (whole, inl took) (part, inl next, is_end) =
      cut_off all given a c _ whole part (inl refl) (Consumes-trans a b c (texts_of all) (text_of given) took next) is_end
  given_last all given a b c (whole, inl took) (part, inr next, is_end) =
      cut_off all given a c _ whole part (inr (next.0, refl)) (Consumes-trans a b c (texts_of all) given.line took next.2) is_end
  given_last all given a b c (whole, inr took) (part, inl next, is_end) =
      cut_off all given a c _ whole part (inl refl) (unknown _ _ _ (given_behind all given a b c took.0 (text_of given) (some_text given) took.2 took.3 next)) is_end
  given_last all given a b c (whole, inr took) (part, inr next, is_end) =
      cut_off all given a c _ whole part (inr (next.0, refl)) (unknown _ _ _ (given_behind all given a b c took.0 given.line next.1 took.2 took.3 next.2)) is_end
