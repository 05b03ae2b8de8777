-- Inputs added one by one behind the entries of full sectors.
use Rattle.std.proofs.Common.{◌≡◌, ℕ, ◌+◌, ◌-◌, ◌<◌, ◌≤◌, List, [], ◌∷◌, ◌++◌, length, take, drop, get_or, set, true, false, Some, sym, ap, ◌∙◌, arith, append_assoc, length-append, length-drop}
use Rattle.std.proofs.lemmas.List.{take_at, drop_at, take_all, drop_all, get_or-drop, take-set-le, drop-set-add, take-append-drop, length-take-le}
use Rattle.input_entries.specs.Growing.{lengthens, last_of, with_input, with_inputs}
use Rattle.input_entries.specs.Inputs.{single, longer}
use Rattle.log_format.specs.Appends.{sealed, grown}
use Rattle.input_entries.specs.declared.Entry.{Entry}
use Rattle.input_entries.specs.declared.StoredEntry.{StoredEntry}
use Rattle.input_entries.proofs.MoreInputs.{last_at, last_goes, last_stays, length-with_inputs, with_inputs-append, next_input}

-- behind entries that stay
module _ (log : List StoredEntry) (n : ℕ) (within : n ≤ length log) where
  abbrev front : List StoredEntry
  front = take n log

  abbrev back : List StoredEntry
  back = drop n log

  whole : front ++ back ≡ log
  whole = take-append-drop n log

  module _ (d : StoredEntry) (more : n < length log) where
    abbrev s : StoredEntry
    s = get_or log (length log - 1) d

    at : n + (length back - 1) ≡ length log - 1
    at = omega (arith, length-drop n log)

    last_here : last_of back ≡ Some s
    last_here = last_at back d (omega (arith, length-drop n log)) ∙ ap Some (get_or-drop n log (length back - 1) d ∙ ap (λ k. get_or log k d) at)

    pub last_longer : (e : Entry) → lengthens s e ≡ true → set log (length log - 1) (longer s) ≡ front ++ with_input back e
    last_longer e join =
        ap (λ k. set log k (longer s)) (sym at) ∙ sym (take-append-drop n (set log (n + (length back - 1)) (longer s)))
        ∙ (λ i. take-set-le n log (n + (length back - 1)) (longer s) (omega arith) i ++ drop-set-add n log (length back - 1) (longer s) i)
        ∙ ap (λ l. front ++ l) (last_goes back s e last_here join)

    pub adds_new : (e : Entry) → lengthens s e ≡ false → log ++ single e ∷ [] ≡ front ++ with_input back e
    adds_new e join = ap (λ l. l ++ single e ∷ []) (sym whole) ∙ append_assoc front back (single e ∷ []) ∙ ap (λ l. front ++ l) (sym (last_stays back s e last_here join))

  pub adds_first : (e : Entry) → length log ≡ n → log ++ single e ∷ [] ≡ front ++ with_input back e
  adds_first e size = ap (λ l. l ++ single e ∷ []) (sym (take_all n log (omega arith))) ∙ ap (λ l. front ++ with_input l e) (sym (drop_all n log (omega arith)))

-- no fewer entries later on
pub fewer_before : (log : List StoredEntry) (es : List Entry) (k : ℕ) → length (with_inputs log (take k es)) ≤ length (with_inputs log es)
fewer_before log es k =
    let all : with_inputs log es ≡ with_inputs (with_inputs log (take k es)) (drop k es) = ap (with_inputs log) (sym (take-append-drop k es)) ∙ with_inputs-append log (take k es) (drop k es) in
    omega (arith, ap length all, length-with_inputs (with_inputs log (take k es)) (drop k es))

-- in the middle of an append
module _ (log : List StoredEntry) (es : List Entry) (n : ℕ) (within : n ≤ length log) (k : ℕ) (less : k < length es) where
  abbrev here : List StoredEntry
  here = take n log ++ with_inputs (drop n log) (take k es)

  size_front : length (take n log) ≡ n
  size_front = length-take-le n log within

  pub front_here : take n here ≡ take n log
  front_here = take_at (take n log) (with_inputs (drop n log) (take k es)) n size_front

  pub back_here : drop n here ≡ with_inputs (drop n log) (take k es)
  back_here = drop_at (take n log) (with_inputs (drop n log) (take k es)) n size_front

  pub within_here : n ≤ length here
  within_here = omega (arith, size_front, length-append (take n log) (with_inputs (drop n log) (take k es)))

  pub room_here : (d : Entry) → length (with_input (drop n here) (get_or es k d)) + n ≤ length (take n log ++ with_inputs (drop n log) es)
  room_here d =
      let next : with_input (drop n here) (get_or es k d) ≡ with_inputs (drop n log) (take (k + 1) es) = ap (λ l. with_input l (get_or es k d)) back_here ∙ sym (next_input (drop n log) es k d less) in
      omega (arith, ap length next, fewer_before (drop n log) es (k + 1), size_front, length-append (take n log) (with_inputs (drop n log) es))

  pub next_here : (d : Entry) → take n here ++ with_input (drop n here) (get_or es k d) ≡ take n log ++ with_inputs (drop n log) (take (k + 1) es)
  next_here d = (λ i. front_here i ++ with_input (back_here i) (get_or es k d)) ∙ ap (λ l. take n log ++ l) (sym (next_input (drop n log) es k d less))

pub grown_by : (log : List StoredEntry) (es : List Entry) (n : ℕ) → n ≡ sealed log → take n log ++ with_inputs (drop n log) es ≡ grown log es
unfolding grown
grown_by log es n is = ap (λ k. take k log ++ with_inputs (drop k log) es) is
