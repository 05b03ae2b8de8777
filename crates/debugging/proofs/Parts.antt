-- Texts of parts, one after another.
use Rattle.std.proofs.Common.{◌≡◌, ◌∙◌, ℕ, suc, ◌+◌, ◌-◌, ◌≤◌, ◌<◌, List, [], ◌++◌, inl, inr, Option, None, Some, length, length-append, drop, is_some, true≢false, append_assoc, ap, refl, subst, sym, arith}
use Rattle.std.specs.Prelude.{codes, slice_get, Bool, true, false, is_err, Result, Ok, Err, OnErr, OnOk}
use Rattle.std.specs.Io.KnownBytes.{Appends}
use Rattle.std.specs.List.{flat_map}
use Rattle.std.proofs.lemmas.List.{length-drop}
use Rattle.std.proofs.lemmas.Option.{get_or_from_slice_get, slice_get_cases}
use lib.Seq.{drop-cons}
use lib.ListN.{drop_of_length-le}
use Rattle.circular_buffer.specs.Buffer.{keep_last}
use Rattle.exact_text.specs.Written.{AppendsProperPrefix}
use Rattle.exact_text.proofs.Writes.{prefix_of_longer}
use Rattle.sm83_processor.specs.declared.step.Executed.{Executed}
use Rattle.debugger.specs.Report.{line_seen}
use Rattle.debugger.proofs.Lines.{IsWrittenBut, none_written, one_more_written, part_failed}
use Rattle.debugging.specs.Answers.{after_order, history_text, serial_text}
use Rattle.debugging.specs.declared.order.Order.{Order}
use Rattle.debugging.specs.Run.{RunState}
use Rattle.machine_lines.specs.Texts.{count_line}

-- ---- items

module _ {X : Type 0} (f : X → List ℕ) where
  pub next_item : (xs : List X) (i : ℕ) (x : X) → i < length xs → slice_get xs i ≡ Some x → flat_map f (drop i xs) ≡ f x ++ flat_map f (drop (i + 1) xs)
  next_item xs i x within got =
      let next : suc i ≡ i + 1 = omega arith in
      ap (flat_map f) (drop-cons xs i x within)
      ∙ ap (λ (y : X). f y ++ flat_map f (drop (suc i) xs)) (get_or_from_slice_get xs i x x got)
      ∙ ap (λ (j : ℕ). f x ++ flat_map f (drop j xs)) next

  pub no_item_left : (xs : List X) (i : ℕ) → length xs ≤ i → flat_map f (drop i xs) ≡ []
  no_item_left xs i ended = ap (flat_map f) (drop_of_length-le xs ended)

pub is_past : {X : Type 0} (xs : List X) (i : ℕ) → slice_get xs i ≡ None → length xs ≤ i
is_past xs i none = elim (slice_get_cases xs i).1 [
  | inl p ↦ absurd (true≢false (ap is_some (sym p.2 ∙ none)))
  | inr p ↦ p.0
]

-- ---- bytes that were sent, in two parts

abbrev text_of : ℕ → List ℕ → List ℕ → List ℕ
text_of count first second = count_line (codes "serial") count ++ (first ++ (second ++ codes "\n"))

text_is : (count : ℕ) (first second sent : List ℕ) → count ≡ length first + length second → first ++ second ≡ sent → text_of count first second ≡ serial_text sent
text_is count first second sent size whole =
    ap (λ (n : ℕ). text_of n first second) (size ∙ sym (length-append first second))
    ∙ ap (λ (t : List ℕ). count_line (codes "serial") (length (first ++ second)) ++ t) (sym (append_assoc first second (codes "\n")))
    ∙ ap serial_text whole

module _ (count : ℕ) (first second sent : List ℕ) (size : count ≡ length first + length second) (whole : first ++ second ≡ sent) (a b : Option (List ℕ)) where
  to_text : (F : List ℕ → Type 0) → F (text_of count first second) → F (serial_text sent)
  to_text F = subst F (text_is count first second sent size whole)

  pub count_failed : AppendsProperPrefix a b (count_line (codes "serial") count) → AppendsProperPrefix a b (serial_text sent)
  count_failed failed = to_text (AppendsProperPrefix a b) (prefix_of_longer a b _ _ failed)

  module _ (c : Option (List ℕ)) (one : Appends a b (count_line (codes "serial") count)) where
    so_far_one : IsWrittenBut (first ++ (second ++ codes "\n")) (text_of count first second) a b
    so_far_one = one_more_written _ _ _ _ a a b refl (none_written (text_of count first second) a) one

    pub first_failed : AppendsProperPrefix b c first → AppendsProperPrefix a c (serial_text sent)
    first_failed failed = to_text (AppendsProperPrefix a c) (part_failed _ _ _ _ a b c refl so_far_one failed)

    module _ (d : Option (List ℕ)) (two : Appends b c first) where
      so_far_two : IsWrittenBut (second ++ codes "\n") (text_of count first second) a c
      so_far_two = one_more_written _ _ _ _ a b c refl so_far_one two

      pub second_failed : AppendsProperPrefix c d second → AppendsProperPrefix a d (serial_text sent)
      second_failed failed = to_text (AppendsProperPrefix a d) (part_failed _ _ _ _ a c d refl so_far_two failed)

      module _ (e : Option (List ℕ)) (three : Appends c d second) where
        so_far_three : IsWrittenBut (codes "\n") (text_of count first second) a d
        so_far_three = one_more_written _ _ _ _ a c d refl so_far_two three

        pub end_failed : AppendsProperPrefix d e (codes "\n") → AppendsProperPrefix a e (serial_text sent)
        end_failed failed = to_text (AppendsProperPrefix a e) (part_failed _ _ [] _ a d e refl so_far_three failed)

-- ---- the last instructions

-- all but the first ones are the last `most`
pub last_of : (most : ℕ) (history : List Executed) (size first : ℕ) → size ≡ length history → first ≡ size - most
    → count_line (codes "history") (size - first) ++ flat_map line_seen (drop first history) ≡ history_text most history
last_of most history size first all is =
    let start : first ≡ length history - most = omega (arith, all, is) in
    let count : size - first ≡ length (keep_last most history) =
    (let kept = length-drop (length history - most) history in omega (arith, all, is, kept)) in
    ap (λ (n : ℕ). count_line (codes "history") n ++ flat_map line_seen (drop first history)) count
    ∙ ap (λ (n : ℕ). count_line (codes "history") (length (keep_last most history)) ++ flat_map line_seen (drop n history)) start

-- ---- a call that may fail

pub on_ok_of : {T E : Type 0} (r : Result T E) {b : Bool} {P : Type 0} → b ≡ is_err r → b ≡ false → OnOk r P → P
on_ok_of (Ok x) is fine p = p
on_ok_of (Err e) is fine p = absurd (cc)

pub on_err_of : {T E : Type 0} (r : Result T E) {b : Bool} {P : Type 0} → b ≡ is_err r → b ≡ true → OnErr r P → P
on_err_of (Ok x) is failed p = absurd (cc)
on_err_of (Err e) is failed p = p

-- what a run is after an order, whether its answer was written or not
pub run_told : {T E : Type 0} (w : Result T E) (r : RunState) {order form : Order} {now : RunState} → order ≡ form → now ≡ after_order form r → OnOk w (now ≡ after_order order r)
run_told (Ok x) r {order} {form} {now} is run = subst (λ (o : Order). now ≡ after_order o r) (sym is) run
run_told (Err e) r is run = tt
