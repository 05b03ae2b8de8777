-- The inputs of entries, one entry after the other.
use Rattle.std.proofs.Common.{◌≡◌, ℕ, suc, ◌+◌, ◌<◌, List, [], ◌∷◌, ◌++◌, length, take, drop, get_or, true, sym, ap, subst, ◌∙◌, arith, append-nil}
use Rattle.std.proofs.Math.Seq.{drop-cons, take-suc}
use Rattle.std.proofs.lemmas.List.{take-append-drop}
use Rattle.input_entries.specs.Inputs.{is_entry, inputs_in, inputs, all_entries}
use Rattle.input_entries.specs.declared.StoredEntry.{StoredEntry}
use Rattle.input_entries.proofs.Runs.{inputs-append, entries-drop}
use Rattle.session.specs.Inputs.{inputs_of}
use Rattle.session.proofs.StandsLaws.{logged_append}

-- the next entry of those of which k are done
pub record Next (entries : List StoredEntry) (k : ℕ) (d : StoredEntry) : Type 0 where
  pub is_one : is_entry (get_or entries k d) ≡ true
  pub done : inputs (take (k + 1) entries) ≡ inputs (take k entries) ++ inputs_in (get_or entries k d)
  pub given : inputs_of (inputs (take (k + 1) entries)) ≡ inputs_of (inputs (take k entries)) ++ inputs_of (inputs_in (get_or entries k d))
  pub all : inputs_of (inputs entries) ≡ inputs_of (inputs (take (k + 1) entries)) ++ inputs_of (inputs (drop (k + 1) entries))

pub next_of : (entries : List StoredEntry) (k : ℕ) (d : StoredEntry) → k < length entries → all_entries entries → Next entries k d
next_of entries k d less all =
    let next : k + 1 ≡ suc k = omega arith in
    let front : drop k entries ≡ get_or entries k d ∷ drop (suc k) entries = drop-cons entries k d less in
    let rest = subst (λ (l : List StoredEntry). all_entries l) front (entries-drop k entries all) in
    let one : take (k + 1) entries ≡ take k entries ++ get_or entries k d ∷ [] = ap (λ n. take n entries) next ∙ take-suc entries k d less in
    let done = ap inputs one ∙ inputs-append (take k entries) (get_or entries k d ∷ []) ∙ ap (λ l. inputs (take k entries) ++ l) (append-nil (inputs_in (get_or entries k d))) in
    record {
      is_one = rest.0;
      done = done;
      given = ap inputs_of done ∙ logged_append (inputs (take k entries)) (inputs_in (get_or entries k d));
      all = ap (λ l. inputs_of (inputs l)) (sym (take-append-drop (k + 1) entries)) ∙ ap inputs_of (inputs-append (take (k + 1) entries) (drop (k + 1) entries)) ∙ logged_append (inputs (take (k + 1) entries)) (inputs (drop (k + 1) entries));
    }
