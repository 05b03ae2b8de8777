-- A log with more inputs.
use Rattle.std.proofs.Common.{◌≡◌, ℕ, ◌+◌, ◌-◌, ◌*◌, ◌≤◌, List, ◌++◌, length, take, drop, sym, ap, ◌∙◌, arith, append_assoc, length-append, length-take, length-drop, true}
use Rattle.std.proofs.lemmas.List.{length-take-le, take-append-drop, drop-append-le, take-append-le}
use Rattle.std.proofs.lemmas.Bool.Decides.{nat_tests}
use Rattle.input_entries.specs.Inputs.{AllFive, inputs, all_input}
use Rattle.input_entries.specs.Growing.{with_inputs}
use Rattle.log_format.specs.Inputs.{AreInputs}
use Rattle.log_format.specs.Appends.{sealed, grown, fits}
use Rattle.input_entries.specs.declared.Entry.{Entry}
use Rattle.input_entries.specs.declared.StoredEntry.{StoredEntry}
use Rattle.input_entries.proofs.CodeLengths.{AreCodes, codes-take, codes-drop, codes-append}
use Rattle.input_entries.proofs.MoreInputs.{Whole, whole, codes-with_inputs, length-with_inputs}
use Rattle.input_entries.proofs.Runs.{inputs-append, entries-append, entries-take, entries-drop}

module _ (log : List StoredEntry) (new : List Entry) (codes : AreCodes log) (fives : AllFive new) (are : AreInputs log) (input : all_input new) (few : length (inputs log) + length new ≤ 216000) where
  abbrev full : List StoredEntry
  full = take (sealed log) log

  abbrev tail : List StoredEntry
  tail = drop (sealed log) log

  pub codes_grown : AreCodes (grown log new)
  unfolding grown
  codes_grown = codes-append full (with_inputs tail new) (codes-take (sealed log) log codes) (codes-with_inputs tail new (codes-drop (sealed log) log codes) fives)

  pub whole_grown : Whole log (grown log new) new
  unfolding grown
  whole_grown =
      let w = whole tail new (entries-drop (sealed log) log are.each) fives input in
      record {
        each = entries-append full (with_inputs tail new) (entries-take (sealed log) log are.each) w.each;
        stand = inputs-append full (with_inputs tail new) ∙ ap (λ l. inputs full ++ l) w.stand ∙ sym (append_assoc (inputs full) (inputs tail) new)
            ∙ ap (λ l. l ++ new) (sym (inputs-append full tail) ∙ ap inputs (take-append-drop (sealed log) log));
      }

  pub inputs_grown : AreInputs (grown log new)
  inputs_grown = record { each = whole_grown.each; few = omega (arith, ap length whole_grown.stand, length-append (inputs log) new, few) }

pub length-grown : (log : List StoredEntry) (new : List Entry) → length log ≤ length (grown log new)
unfolding grown
length-grown log new = omega (arith, length-append (take (sealed log) log) (with_inputs (drop (sealed log) log) new), length-with_inputs (drop (sealed log) log) new, length-take (sealed log) log, length-drop (sealed log) log)

-- a full sector has the same entries before and after
pub sealed_sector : (log : List StoredEntry) (new : List Entry) (j : ℕ) → 84 * j + 84 ≤ sealed log → take 84 (drop (84 * j) log) ≡ take 84 (drop (84 * j) (grown log new))
unfolding grown
sealed_sector log new j whole_sector =
    let front = take (sealed log) log in
    let size : length front ≡ sealed log = length-take-le (sealed log) log (omega arith) in
    let long : 84 ≤ length (drop (84 * j) front) = omega (arith, length-drop (84 * j) front, size) in
    let at : (rest : List StoredEntry) → take 84 (drop (84 * j) (front ++ rest)) ≡ take 84 (drop (84 * j) front) =
    λ rest. ap (take 84) (drop-append-le (84 * j) front rest (omega (arith, size))) ∙ take-append-le 84 (drop (84 * j) front) rest long in
    ap (λ (l : List StoredEntry). take 84 (drop (84 * j) l)) (sym (take-append-drop (sealed log) log)) ∙ at (drop (sealed log) log) ∙ sym (at (with_inputs (drop (sealed log) log) new))

pub fits_means : (log : List StoredEntry) (new : List Entry) → fits log new ≡ true → (length (grown log new) ≤ 2688) × (length (inputs log) + length new ≤ 216000)
unfolding fits
fits_means log new is =
    let entries : length (grown log new) ≤ 2688 = grind (arith, nat_tests) in
    let counts : length (inputs log) + length new ≤ 216000 = grind (arith, nat_tests) in
    (entries, counts)
