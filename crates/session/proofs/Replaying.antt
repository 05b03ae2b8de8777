-- The steps of giving a machine the inputs of a log.
use Rattle.std.proofs.Common.{◌≡◌, ◌&&◌, inl, inr, ℕ, zero, suc, ◌+◌, ◌-◌, ◌<◌, ◌≤◌, ◌^◌, List, [], ◌∷◌, ◌++◌, length, drop, replicate, get_or, Bool, true, if◌then◌else◌, nat_le, Some, None, refl, sym, ap, ◌∙◌, arith, length-append}
use Rattle.std.proofs.Math.Seq.{drop-cons}
use Rattle.std.proofs.lemmas.Bool.{cases_Bool, and_parts}
use Rattle.std.proofs.lemmas.Bool.Decides.{nat_tests}
use Rattle.std.proofs.lemmas.Nat.{from_le_bytes-to_le_bytes_4}
use Rattle.machine.specs.Machine.{MachineState, after, applied}
use Rattle.machine.specs.Machine.{Input}
use Rattle.machine.specs.Machine.{Frame, Seconds}
use Rattle.input_entries.specs.Inputs.{frame, seconds, is_entry, inputs_in, inputs}
use Rattle.log_format.specs.Inputs.{wrong_from}
use Rattle.input_entries.specs.declared.Entry.{Entry}
use Rattle.input_entries.specs.declared.StoredEntry.{StoredEntry}
use Rattle.session.specs.Inputs.{input_of, inputs_of, logged}
use Rattle.session.proofs.StandsLaws.{after_none, after_one, logged_append}

-- one frame of those that are left
pub frames_left : (m : MachineState) (input : Input) (n k : ℕ) → k < n → after (applied input m) (replicate (n - (k + 1)) input) ≡ after m (replicate (n - k) input)
unfolding after
frames_left m input n k less =
    let e : n - k ≡ suc (n - (k + 1)) = omega arith in
    sym (ap (λ (j : ℕ). after m (replicate j input)) e)

pub no_frames : (m : MachineState) (input : Input) (n k : ℕ) → n ≤ k → m ≡ after m (replicate (n - k) input)
no_frames m input n k le =
    let e : n - k ≡ 0 = omega arith in
    sym (ap (λ (j : ℕ). after m (replicate j input)) e ∙ after_none m)

pub frames_of : (buttons n : ℕ) → inputs_of (replicate n (frame buttons)) ≡ replicate n (Frame buttons)
frames_of buttons zero = refl
frames_of buttons (suc n) = ap (λ (l : List Input). Frame buttons ∷ l) (frames_of buttons n)

pub seconds_back : (n : ℕ) → n < 2 ^ 32 → input_of (seconds n) ≡ Seconds n
seconds_back n fits = ap Seconds (from_le_bytes-to_le_bytes_4 n fits)

-- the inputs of an entry by its kind
pub after_frames : (m after_it : MachineState) (entry : StoredEntry) (buttons times : ℕ) → inputs_in entry ≡ replicate times (frame buttons) → after_it ≡ after m (replicate times (Frame buttons)) → after_it ≡ after m (inputs_of (inputs_in entry))
after_frames m after_it entry buttons times are is = is ∙ ap (after m) (sym (ap inputs_of are ∙ frames_of buttons times))

pub after_seconds : (m after_it : MachineState) (entry : StoredEntry) (n : ℕ) → n < 2 ^ 32 → inputs_in entry ≡ seconds n ∷ [] → after_it ≡ applied (Seconds n) m → after_it ≡ after m (inputs_of (inputs_in entry))
after_seconds m after_it entry n fits are is =
    is ∙ sym (after_one m (Seconds n)) ∙ ap (λ (i : Input). after m (i ∷ [])) (sym (seconds_back n fits)) ∙ ap (λ (l : List Entry). after m (inputs_of l)) (sym are)

-- the next entry of a log of which each is an input
pub record NextEntry (log : List StoredEntry) (k before : ℕ) (entry : StoredEntry) : Type 0 where
  pub is_one : is_entry entry ≡ true
  pub few : before + length (inputs_in entry) ≤ 216000
  pub none : wrong_from (k + 1) (before + length (inputs_in entry)) (drop (k + 1) log) ≡ None
  pub logged_is : logged (drop k log) ≡ inputs_of (inputs_in entry) ++ logged (drop (k + 1) log)
  pub count_is : length (inputs (drop k log)) ≡ length (inputs_in entry) + length (inputs (drop (k + 1) log))

abbrev goes_on : ℕ → StoredEntry → Bool
goes_on before s = is_entry s && nat_le (before + length (inputs_in s)) 216000

pub next_entry : (log : List StoredEntry) (k before : ℕ) (d : StoredEntry) → k < length log → wrong_from k before (drop k log) ≡ None → NextEntry log k before (get_or log k d)
next_entry log k before d less none =
    let s = get_or log k d in
    let next : suc k ≡ k + 1 = omega arith in
    let front : drop k log ≡ s ∷ drop (k + 1) log = drop-cons log k d less ∙ ap (λ (n : ℕ). s ∷ drop n log) next in
    let here : (if goes_on before s then wrong_from (k + 1) (before + length (inputs_in s)) (drop (k + 1) log) else Some k) ≡ None = sym (ap (wrong_from k before) front) ∙ none in
    elim (cases_Bool (goes_on before s)) [
      | inl holds ↦
          let parts = and_parts (is_entry s) (nat_le (before + length (inputs_in s)) 216000) holds in
          let e = parts.1 in
          record {
            is_one = parts.0;
            few = grind (arith, nat_tests);
            none = sym (ap (λ (t : Bool). if t then wrong_from (k + 1) (before + length (inputs_in s)) (drop (k + 1) log) else Some k) holds) ∙ here;
            logged_is = ap logged front ∙ logged_append (inputs_in s) (inputs (drop (k + 1) log));
            count_is = ap (λ (l : List StoredEntry). length (inputs l)) front ∙ length-append (inputs_in s) (inputs (drop (k + 1) log));
          }
      | inr fails ↦
          let wrong : Some k ≡ None = sym (ap (λ (t : Bool). if t then wrong_from (k + 1) (before + length (inputs_in s)) (drop (k + 1) log) else Some k) fails) ∙ here in
          absurd (cc)
    ]
