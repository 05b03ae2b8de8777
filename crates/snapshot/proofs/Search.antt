-- A search through fields in order of their offsets.
use Rattle.std.proofs.Common.{◌≡◌, ℕ, ◌+◌, ◌<◌, ◌≤◌, Bool, true, false, List, length, get_or, refl, ap, subst, ◌∙◌, inl, inr, arith}
use Rattle.std.proofs.lemmas.Bool.{cases_lt}
use Rattle.std.proofs.lemmas.List.{get_or_default}
use Rattle.snapshot.specs.declared.field.SnapshotField.{SnapshotField}
use Rattle.snapshot.specs.Table.{is_legal}
use Rattle.snapshot.specs.Legal.{IsFirstIllegal}
use Rattle.snapshot.specs.Ascending.{IsAscending}

both : (b : Bool) → b ≡ true → b ≡ false → ⊥
both b t f = cc

pub first_of :
    (fields : List SnapshotField) (bytes : List ℕ) (i : ℕ) (d : SnapshotField)
    → IsAscending fields
    → i < length fields
    → ((k : ℕ) (e : SnapshotField) → k < i → is_legal (get_or fields k e) bytes ≡ true)
    → is_legal (get_or fields i d) bytes ≡ false
    → IsFirstIllegal fields bytes (get_or fields i d).offset
first_of fields bytes i d order lt before here = record {
  field = get_or fields i d;
  listed = (i, lt, get_or_default fields i (get_or fields i d) d lt);
  here = refl;
  illegal = here;
  least =
      λ k e within bad.
      elim (cases_lt k i) [
        | inl below ↦ absurd (both (is_legal (get_or fields k e) bytes) (before k e below) bad)
        | inr le ↦
            let same : get_or fields i e ≡ get_or fields i d = get_or_default fields i e d lt in
            subst (λ (f : SnapshotField). f.offset ≤ (get_or fields k e).offset) same (order.order i k e le within)
      ];
}

pub legal_more :
    (fields : List SnapshotField) (bytes : List ℕ) (i : ℕ) (d : SnapshotField)
    → i < length fields
    → ((k : ℕ) (e : SnapshotField) → k < i → is_legal (get_or fields k e) bytes ≡ true)
    → is_legal (get_or fields i d) bytes ≡ true
    → (k : ℕ) (e : SnapshotField) → k < i + 1 → is_legal (get_or fields k e) bytes ≡ true
legal_more fields bytes i d lt before here k e below =
    elim (cases_lt k i) [
      | inl less ↦ before k e less
      | inr le ↦
          let at : i ≡ k = omega arith in
          let same : get_or fields i d ≡ get_or fields k e = get_or_default fields i d e lt ∙ ap (λ (n : ℕ). get_or fields n e) at in
          subst (λ (f : SnapshotField). is_legal f bytes ≡ true) same here
    ]
