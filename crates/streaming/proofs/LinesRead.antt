-- Lines that were read, one after another.
use Rattle.std.proofs.Common.{◌≡◌, inl, inr, ℕ, Bool, true, false, List, [], ◌∷◌, ◌++◌, length, Option, Some, refl, sym, ap, ◌∙◌, subst, arith, append_assoc, length-append}
use Rattle.std.specs.List.{All}
use Rattle.std.specs.Io.KnownBytes.{Consumes}
use Rattle.std.proofs.lemmas.List.Elements.{All-cons, All-head, All-nil, All-tail}
use Rattle.input_lines.specs.Given.{Given, text_of, texts_of, IsWhole, HasReadGiven}
use Rattle.input_lines.proofs.Givings.{texts_more}
use Rattle.streaming.specs.Orders.{order_of, asked, asked_by, Deed, Does, GoesOnWith, order_in, IsOwn, IsOther, IsDoneBy}
use Rattle.streaming.specs.declared.order.Order.{Order}
use Rattle.streaming.specs.declared.order.Order.TheVariants.{Back, Restore}
use Rattle.machine_lines.specs.KeptStates.{KeptMachine}

-- ---- the last of a list

pub last_is : {X : Type 0} (xs ys : List X) (x y : X) → xs ++ x ∷ [] ≡ ys ++ y ∷ [] → (xs ≡ ys) × (x ≡ y)
last_is [] [] x y e = (refl, cc)
last_is [] (b ∷ ys) x y e = absurd (omega (arith, ap length e, length-append ys (y ∷ [])))
last_is (a ∷ xs) [] x y e = absurd (omega (arith, ap length e, length-append xs (x ∷ [])))
last_is (a ∷ xs) (b ∷ ys) x y e =
    let rest : xs ++ x ∷ [] ≡ ys ++ y ∷ [] = cc in
    let first : a ≡ b = cc in
    let more = last_is xs ys x y rest in
    ((λ i. first i ∷ more.0 i), more.1)

all_before : {X : Type 0} (P : X → Type 0) (xs ys : List X) → All P (xs ++ ys) → All P xs
all_before P [] ys all = All-nil P
all_before P (x ∷ xs) ys all = All-cons P x xs (All-head P x (xs ++ ys) all) (all_before P xs ys (All-tail P x (xs ++ ys) all))

-- ---- the lines before the last one

module _ (states : Bool) (lines : List Given) (given : Given) (more : List ℕ) (a b : Option (List ℕ)) where
  pub read_before : HasReadGiven (asked states) (lines ++ given ∷ []) more a b → (rest : List ℕ) × HasReadGiven (asked states) lines rest a b
  read_before (inl (whole, read)) =
      (text_of given ++ more, inl (all_before (IsWhole (asked states)) lines (given ∷ []) whole, subst (Consumes a b) (ap (λ (t : List ℕ). t ++ more) (texts_more lines given) ∙ append_assoc (texts_of lines) (text_of given) more) read))
  read_before (inr (text, cut, none, read, is_end)) =
      let last = last_is lines cut.first given cut.last cut.is in
      let whole : All (IsWhole (asked states)) lines = subst (All (IsWhole (asked states))) (sym last.0) cut.whole in
      elim cut.ends [
        | inl all ↦ (text_of cut.last, inl (whole, subst (Consumes a b) (all ∙ ap (λ (l : List Given). texts_of l ++ text_of cut.last) (sym last.0)) read))
        | inr (none, part) ↦ (cut.last.line, inl (whole, subst (Consumes a b) (part ∙ ap (λ (l : List Given). texts_of l ++ cut.last.line) (sym last.0)) read))
      ]

-- ---- what a line asks for

-- an empty one asks for nothing
pub empty_asks : (states : Bool) (line : List ℕ) → length line ≡ 0 → asked states line ≡ 0
empty_asks true [] e = refl
empty_asks false [] e = refl
empty_asks states (a ∷ line) e = absurd (omega (arith, e))

-- the order of a line is this one
pub asked_is : (states : Bool) (line : List ℕ) (order : Order) → order_of states line ≡ Some order → asked states line ≡ asked_by (Some order)
asked_is states line order is = ap asked_by is

own_asks : (order : Order) → IsOwn order → asked_by (Some order) ≡ 0
own_asks (Back k) own = absurd own
own_asks (Restore n) own = absurd own
own_asks order own = refl

other_asks : (rom : List ℕ) (kept : List KeptMachine) (bytes : List ℕ) (order : Order) (machine : _) → IsOther rom kept bytes order machine → length bytes ≡ asked_by (Some order)
other_asks rom kept bytes (Back k) machine other = ap length other.0
other_asks rom kept bytes (Restore n) machine other = other.0
other_asks rom kept bytes order machine other = absurd other

-- as many bytes as the order of a deed asks for
pub deed_asks : (rom : List ℕ) (kept : List KeptMachine) (bytes : List ℕ) (deed : Deed) → IsDoneBy rom kept bytes deed → length bytes ≡ asked_by (Some (order_in deed))
deed_asks rom kept bytes (Does order) done = ap length done.0 ∙ sym (own_asks order done.1)
deed_asks rom kept bytes (GoesOnWith order machine) done = other_asks rom kept bytes order machine done
