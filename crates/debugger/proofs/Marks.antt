-- One more break is marked.
use Rattle.std.proofs.Common.{◌≤◌, ◌≡◌, ◌∙◌, inl, inr, ℕ, ◌+◌, ◌<◌, ◌%◌, Bool, true, List, length, slice_get, slice_index_or, slice_set, Some, subst, sym, arith}
use Rattle.std.proofs.lemmas.Bool.Decides.{eqb_tells}
use Rattle.std.proofs.lemmas.List.{get_or_default}
use Rattle.circular_buffer.proofs.Places.{slice_get-set_same, slice_get-set_other}
use Rattle.debugger.specs.Run.{AreMarked}

-- the first of them are marked
abbrev pub FirstAreMarked : List Bool → List ℕ → ℕ → Type 0
FirstAreMarked marks breaks many = (k : ℕ) → k < many → slice_get marks (slice_index_or breaks k 0 % 256) ≡ Some true

pub kept : (marks : List Bool) (i j : ℕ) → i < length marks → slice_get marks j ≡ Some true → slice_get (slice_set marks i true) j ≡ Some true
kept marks i j below there = elim (eqb_tells j i) [
  | inl same ↦ subst (λ (x : ℕ). slice_get (slice_set marks i true) x ≡ Some true) (sym same.1) (slice_get-set_same marks i true below)
  | inr other ↦ slice_get-set_other marks i j true other.1 ∙ there
]

pub one_more_marked : (marks : List Bool) (breaks : List ℕ) (many i : ℕ) → i < length marks → i ≡ slice_index_or breaks many 0 % 256 →
    FirstAreMarked marks breaks many → FirstAreMarked (slice_set marks i true) breaks (many + 1)
one_more_marked marks breaks many i below is before k less = elim (eqb_tells k many) [
  | inl same ↦ subst (λ (x : ℕ). slice_get (slice_set marks i true) (slice_index_or breaks x 0 % 256) ≡ Some true) (sym same.1)
      (subst (λ (x : ℕ). slice_get (slice_set marks i true) x ≡ Some true) is (slice_get-set_same marks i true below))
  | inr other ↦ let earlier = other.1 in kept marks i (slice_index_or breaks k 0 % 256) below (before k (omega arith))
]

pub all_marked : (marks : List Bool) (breaks : List ℕ) (many : ℕ) → length breaks ≤ many → FirstAreMarked marks breaks many → AreMarked marks breaks
all_marked marks breaks many all before at there =
    let place = there.0 in
    let below : place < length breaks = there.1 in
    let is : slice_index_or breaks place 0 ≡ at = get_or_default breaks place 0 at below ∙ there.2 in
    subst (λ (x : ℕ). slice_get marks (x % 256) ≡ Some true) is (before place (omega arith))
