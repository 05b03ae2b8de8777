-- How many inputs a log counts.
use Rattle.std.proofs.Common.{◌≡◌, ◌&&◌, inl, inr, ℕ, suc, ◌+◌, ◌<◌, ◌≤◌, List, length, drop, get_or, Bool, true, if◌then◌else◌, nat_le, nat_lt, sym, ap, ◌∙◌, arith}
use Rattle.std.proofs.Math.Seq.{drop-cons}
use Rattle.std.proofs.lemmas.Bool.{cases_Bool}
use Rattle.std.proofs.lemmas.Bool.Decides.{nat_tests}
use Rattle.input_entries.specs.Inputs.{is_entry, inputs_in}
use Rattle.log_format.specs.Inputs.{counted}
use Rattle.input_entries.specs.declared.StoredEntry.{StoredEntry}
use Rattle.input_entries.proofs.Meanings.{own_count, some_inputs}

abbrev pub step_by : ℕ → ℕ → ℕ
step_by before n = if nat_lt 0 n && nat_le (before + n) 216000 then n else 1

counted_here : (s : StoredEntry) (n before : ℕ) → n ≡ own_count s → step_by before n ≡ (if is_entry s && nat_le (before + length (inputs_in s)) 216000 then length (inputs_in s) else 1)
counted_here s n before is = elim (cases_Bool (is_entry s)) [
  | inl entry ↦
      let m = length (inputs_in s) in
      let same : n ≡ m = is ∙ ap (λ (t : Bool). if t then m else 0) entry in
      let some : 1 ≤ m = some_inputs s entry in
      let more : nat_lt 0 m ≡ true = grind (arith, nat_tests) in
      ap (step_by before) same ∙ ap (λ (t : Bool). if t && nat_le (before + m) 216000 then m else 1) (more ∙ sym entry)
  | inr fails ↦
      let m = length (inputs_in s) in
      let none : n ≡ 0 = is ∙ ap (λ (t : Bool). if t then m else 0) fails in
      ap (step_by before) none ∙ ap (λ (t : Bool). if t && nat_le (before + m) 216000 then m else 1) (sym fails)
]

pub counted_next : (log : List StoredEntry) (k before n now : ℕ) (d : StoredEntry) → k < length log → n ≡ own_count (get_or log k d) → now ≡ before + step_by before n
    → counted before (drop k log) ≡ counted now (drop (k + 1) log)
counted_next log k before n now d less is more =
    let next : suc k ≡ k + 1 = omega arith in
    ap (counted before) (drop-cons log k d less)
    ∙ ap (λ j. counted (before + j) (drop (suc k) log)) (sym (counted_here (get_or log k d) n before is))
    ∙ (λ i. counted (sym more i) (drop (next i) log))
