-- Lines that ask for something, or are wrong.
use Rattle.std.proofs.Common.{◌≡◌, ◌⊎◌, inl, inr, ⊎_elim, ℕ, ◌<◌, ◌==◌, Bool, true, false, true≢false, is_some, if◌then◌else◌, List, [], ◌∷◌, length, Bor, MatchOption, ap, Option, None, Some, refl, sym, ◌∙◌, subst, arith}
use Rattle.std.specs.Prelude.{codes, nat_le}
use Rattle.std.specs.Option.{option_map}
use Rattle.std.specs.Str.{bytes_eq}
use Rattle.std.specs.List.{position_or_len}
use Rattle.std.specs.Io.KnownBytes.{Consumes, IsAtEnd}
use Rattle.std.proofs.lemmas.Bool.{cases_Bool, eqb-true, eqb-false, lt-leb}
use Rattle.input_lines.specs.Newlines.{HasNoNewline, first_line, behind_first_line}
use Rattle.input_lines.specs.Reading.{left_of, TakesLine}
use Rattle.input_lines.proofs.Newlines.{is_there, no_newline, no_newline_at_all, all_of_it, nothing_behind}
use Rattle.input_lines.proofs.KnownLeft.{none_left, line_taken, all_taken}
use Rattle.script.specs.Line.{move_of_line, words_of}
use Rattle.script.proofs.Words.{split_begins}
use Rattle.streaming.specs.Orders.{needs_states, order_by, order_for, order_of, state_order_of}
use Rattle.streaming.specs.Reading.{IsAsked, IsNext}
use Rattle.streaming.specs.declared.order.Order.{Order}
use Rattle.streaming.specs.declared.order.Order.TheVariants.{Make, Look}
use Rattle.machine_lines.specs.declared.looks.Look.TheVariants.{Shades}
use Rattle.streaming.specs.declared.next_order.Next.{Next}
use Rattle.streaming.specs.declared.next_order.Next.TheVariants.{Line, Wrong, End, Failed}

-- ---- a line of too many words

-- how a text is cut at its first space
abbrev IsCutAt : List ℕ → List ℕ → Option (Bor (List ℕ)) → Type 0
IsCutAt text word rest = MatchOption rest (words_of text ≡ word ∷ []) (λ after. words_of text ≡ word ∷ words_of after.now)

pub too_many_words : (line name word : List ℕ) (a b : Option (Bor (List ℕ))) (x : Bor (List ℕ)) → IsCutAt line name a → a ≡ Some x → IsCutAt x.now word b
    → true ≡ is_some b → None ≡ state_order_of (words_of line)
too_many_words line name word a None x p ea q more = absurd (cc)
too_many_words line name word a (Some y) x p ea q more =
    let one = rw ea at p in
    let rest = split_begins (λ byte. byte == 32) y.now in
    let words : words_of line ≡ name ∷ word ∷ rest.0 ∷ rest.1 = rw (one, q, rest.2) refl in
    sym (ap state_order_of words)

-- ---- what an order needs

for_states : (states : Bool) (o : Option Order) (order : Order) → order_for states o ≡ Some order → needs_states order ≡ true → states ≡ true
for_states true o order is needs = refl
for_states false None order is needs = absurd (cc)
for_states false (Some first) order is needs = elim (cases_Bool (needs_states first)) [
  | inl one ↦ absurd (let none = rw one at is in cc)
  | inr other ↦ absurd (let same = rw other at is in true≢false (sym needs ∙ sym (ap (λ (o : Option Order). needs_states (order_or o)) same) ∙ other))
]
  where
    order_or : Option Order → Order
    order_or None = Look Shades
    order_or (Some o) = o

in_states : (short states : Bool) (o : Option Order) (order : Order) → (if short then order_for states o else None) ≡ Some order → needs_states order ≡ true → states ≡ true
in_states true states o order is needs = for_states states o order is needs
in_states false states o order is needs = absurd (cc)

pub needs_are : (states : Bool) (line : List ℕ) (order : Order) → order_of states line ≡ Some order → needs_states order ≡ true → states ≡ true
needs_are states line order is needs = in_states (nat_le (length line) 64) states (order_by (option_map Make (move_of_line line)) line) order is needs

-- ---- the next line

module _ (states : Bool) where
  pub too_long : (line : List ℕ) → 64 < length line → order_of states line ≡ None
  too_long line long = rw (lt-leb (length line) 64 long) refl

  -- a line that was taken is no read that failed
  pub asked_not_failed : (next : Next) (line : List ℕ) → IsAsked states next line → next ≡ Failed → ⊥
  asked_not_failed next line asked failed = subst (λ (n : Next). IsAsked states n line) failed asked

  pub next_line : (next : Next) (line : List ℕ) (old new since : Option (List ℕ)) → HasNoNewline line → IsAsked states next line → TakesLine line old new → IsNext states next old new since
  next_line (Line order) line old new since one asked takes = (line, one, asked, takes)
  next_line Wrong line old new since one asked takes = (line, record { one_line = one; some = asked.0; wrong = asked.1 }, inl takes)
  next_line End line old new since one asked takes = absurd asked
  next_line Failed line old new since one asked takes = absurd asked

  pub next_too_long : (next : Next) (line : List ℕ) (old new since : Option (List ℕ)) → HasNoNewline line → IsAsked states next line → 64 < length line → Consumes old new line → IsNext states next old new since
  next_too_long (Line None) line old new since one asked long takes = absurd (omega (arith, asked, long))
  next_too_long (Line (Some order)) line old new since one asked long takes = let none = too_long line long in let some = asked.1 in absurd (cc)
  next_too_long Wrong line old new since one asked long takes = (line, record { one_line = one; some = asked.0; wrong = asked.1 }, inr (long, takes))
  next_too_long End line old new since one asked long takes = absurd asked
  next_too_long Failed line old new since one asked long takes = absurd asked

  -- what is there is cut at its first newline
  pub next_there : (next : Next) (old : Option (List ℕ)) (unread rest : List ℕ) (since : Option (List ℕ)) → Consumes old (left_of unread since) [] → IsAsked states next (first_line unread) → rest ≡ behind_first_line unread
      → position_or_len (λ byte. byte == 10) unread < length unread → IsNext states next old (left_of rest since) since
  next_there next old unread rest since before asked rest_is less =
      subst (λ (l : List ℕ). IsNext states next old (left_of l since) since) (sym rest_is)
      (next_line next (first_line unread) old (left_of (behind_first_line unread) since) since (no_newline unread) asked (inl (line_taken old unread since before less)))

  pub next_all : (next : Next) (old : Option (List ℕ)) (unread rest : List ℕ) (since : Option (List ℕ)) → Consumes old (left_of unread since) [] → IsAsked states next (first_line unread) → rest ≡ behind_first_line unread
      → position_or_len (λ byte. byte == 10) unread ≡ length unread → (64 < length unread) ⊎ ((0 < length unread) × IsAtEnd since) → IsNext states next old (left_of rest since) since
  next_all next old unread rest since before asked rest_is all ends =
      let one = no_newline_at_all unread all in
      let asked_all : IsAsked states next unread = subst (IsAsked states next) (all_of_it unread all) asked in
      let taken = all_taken old unread since before in
      subst (λ (l : List ℕ). IsNext states next old (left_of l since) since) (sym (rest_is ∙ nothing_behind unread all))
      (⊎_elim (λ (long : 64 < length unread). next_too_long next unread old (left_of [] since) since one asked_all long taken)
      (λ (last : (0 < length unread) × IsAtEnd since). next_line next unread old (left_of [] since) since one asked_all (inr (last.0, taken, none_left since last.1))) ends)

  pub next_full : (next : Next) (old : Option (List ℕ)) (unread rest : List ℕ) (since : Option (List ℕ)) → Consumes old (left_of unread since) [] → IsAsked states next (first_line unread) → rest ≡ behind_first_line unread
      → (64 < length unread) ⊎ (position_or_len (λ byte. byte == 10) unread < length unread) → IsNext states next old (left_of rest since) since
  next_full next old unread rest since before asked rest_is filled =
      ⊎_elim (λ (long : 64 < length unread). elim (cases_Bool (position_or_len (λ byte. byte == 10) unread == length unread)) [
        | inl all ↦ next_all next old unread rest since before asked rest_is (eqb-true _ _ all) (inl long)
        | inr other ↦ next_there next old unread rest since before asked rest_is (is_there unread (eqb-false _ _ other))
      ])
      (λ (less : position_or_len (λ byte. byte == 10) unread < length unread). next_there next old unread rest since before asked rest_is less) filled
