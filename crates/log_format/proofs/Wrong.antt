-- The first entry of a log that is no input.
use Rattle.std.proofs.Common.{◌≡◌, ◌&&◌, inl, inr, ℕ, suc, ◌+◌, ◌<◌, ◌≤◌, List, [], ◌∷◌, length, drop, get_or, Bool, true, false, if◌then◌else◌, nat_le, Some, None, refl, sym, ap, ◌∙◌, arith, length-append}
use Rattle.std.proofs.Math.Seq.{drop-cons}
use Rattle.std.proofs.lemmas.Bool.{cases_Bool}
use Rattle.std.proofs.lemmas.Bool.Decides.{nat_tests}
use Rattle.input_entries.specs.Inputs.{is_entry, inputs_in, inputs, all_entries}
use Rattle.log_format.specs.Inputs.{wrong_from}
use Rattle.log_format.specs.Laws.{ALogOfInputsHasNoneWrong}
use Rattle.input_entries.specs.declared.StoredEntry.{StoredEntry}
use Rattle.input_entries.proofs.Meanings.{own_count, not_entry, an_entry, counts_all}

abbrev goes_on : ℕ → StoredEntry → Bool
goes_on before s = is_entry s && nat_le (before + length (inputs_in s)) 216000

wrong_here : (log : List StoredEntry) (k before : ℕ) (d : StoredEntry) (t : Bool) → k < length log → goes_on before (get_or log k d) ≡ t
    → wrong_from k before (drop k log) ≡ (if t then wrong_from (k + 1) (before + length (inputs_in (get_or log k d))) (drop (k + 1) log) else Some k)
wrong_here log k before d t less is =
    let s = get_or log k d in
    let next : suc k ≡ k + 1 = omega arith in
    ap (wrong_from k before) (drop-cons log k d less)
    ∙ (λ i. if is i then wrong_from (k + 1) (before + length (inputs_in s)) (drop (next i) log) else Some k)

-- it stands for none
pub wrong_none : (log : List StoredEntry) (k before : ℕ) (d : StoredEntry) → k < length log → 0 ≡ own_count (get_or log k d) → wrong_from k before (drop k log) ≡ Some k
wrong_none log k before d less none =
    let s = get_or log k d in
    wrong_here log k before d false less (ap (λ (t : Bool). t && nat_le (before + length (inputs_in s)) 216000) (not_entry s none))

module _ (log : List StoredEntry) (k before n : ℕ) (d : StoredEntry) (less : k < length log) (is : n ≡ own_count (get_or log k d)) (some : 0 < n) where
  s : StoredEntry
  s = get_or log k d

  stands : is_entry s ≡ true
  unfolding s
  stands = an_entry (get_or log k d) n is some

  same : n ≡ length (inputs_in s)
  unfolding s
  same = counts_all (get_or log k d) n is stands

  -- there would be too many
  pub wrong_many : 216000 < before + n → wrong_from k before (drop k log) ≡ Some k
  unfolding s
  wrong_many many =
      let fails : nat_le (before + length (inputs_in s)) 216000 ≡ false = grind (arith, nat_tests) in
      wrong_here log k before d false less ((λ i. stands i && fails i))

  pub wrong_next : before + n ≤ 216000 → wrong_from k before (drop k log) ≡ wrong_from (k + 1) (before + n) (drop (k + 1) log)
  unfolding s
  wrong_next few =
      let holds : nat_le (before + length (inputs_in s)) 216000 ≡ true = grind (arith, nat_tests) in
      wrong_here log k before d true less ((λ i. stands i && holds i)) ∙ ap (λ m. wrong_from (k + 1) (before + m) (drop (k + 1) log)) (sym same)

none_then : (log : List StoredEntry) (index before : ℕ) → before ≤ 216000 → wrong_from index before log ≡ None → all_entries log × (before + length (inputs log) ≤ 216000)
none_then [] index before few none = (tt, omega arith)
none_then (s ∷ log) index before few none =
    let m = length (inputs_in s) in
    elim (cases_Bool (goes_on before s)) [
      | inl holds ↦
          let entry : is_entry s ≡ true = grind (arith, nat_tests) in
          let within : before + m ≤ 216000 = grind (arith, nat_tests) in
          let rest : wrong_from (index + 1) (before + m) log ≡ None = sym (ap (λ (t : Bool). if t then wrong_from (index + 1) (before + m) log else Some index) holds) ∙ none in
          let later = none_then log (index + 1) (before + m) within rest in
          ((entry, later.0), omega (arith, later.1, length-append (inputs_in s) (inputs log)))
      | inr fails ↦
          let some : Some index ≡ None = sym (ap (λ (t : Bool). if t then wrong_from (index + 1) (before + m) log else Some index) fails) ∙ none in
          absurd (cc)
    ]

then_none : (log : List StoredEntry) (index before : ℕ) → all_entries log → before + length (inputs log) ≤ 216000 → wrong_from index before log ≡ None
then_none [] index before are few = refl
then_none (s ∷ log) index before are few =
    let m = length (inputs_in s) in
    let size : length (inputs (s ∷ log)) ≡ m + length (inputs log) = length-append (inputs_in s) (inputs log) in
    let holds : nat_le (before + m) 216000 ≡ true = let e = size in grind (arith, nat_tests) in
    (λ i. if are.0 i && holds i then wrong_from (index + 1) (before + m) log else Some index)
    ∙ then_none log (index + 1) (before + m) are.1 (omega (arith, size, few))

pub none_wrong : ALogOfInputsHasNoneWrong
none_wrong log = (
  λ none.
      let all = none_then log 0 0 (omega arith) none in
      record { each = all.0; few = omega (arith, all.1) },
  λ are. then_none log 0 0 are.each (omega (arith, are.few)),
)
