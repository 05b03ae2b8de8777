-- A run with one frame more, and the entry of one input.
use Rattle.std.proofs.Common.{◌≡◌, ◌==◌, ◌&&◌, ◌||◌, inl, inr, ℕ, zero, suc, ◌+◌, ◌<◌, ◌≤◌, List, [], ◌∷◌, ◌++◌, length, take, drop, Bool, true, false, if◌then◌else◌, nat_le, refl, sym, ap, ◌∙◌, arith, append_assoc}
use Rattle.std.proofs.lemmas.List.{replicate-append-replicate}
use Rattle.std.proofs.lemmas.Bool.{cases_eq}
use Rattle.std.proofs.lemmas.Bool.Decides.{nat_tests}
use Rattle.std.proofs.lemmas.Nat.{from_le_bytes-to_le_bytes_4}
use Rattle.std.specs.Int.{w32, to_le_bytes, from_le_bytes}
use lib.ListN.{replicate}
use Rattle.input_entries.specs.Bytes.{byte}
use Rattle.input_entries.specs.Inputs.{frame, is_input, run_length, is_run, is_seconds, is_entry, inputs_in, inputs, all_entries, single, joins, longer}
use Rattle.input_entries.specs.declared.Entry.{Entry}
use Rattle.input_entries.specs.declared.StoredEntry.{StoredEntry}

-- what holds of five bytes holds of an input that has five
by_five : (P : Entry → Type 0) → ((a b c d e : ℕ) → P (record { code = a ∷ b ∷ c ∷ d ∷ e ∷ [] })) → (code : List ℕ) → length code ≡ 5 → P (record { code = code })
by_five P at [] size = absurd (omega arith)
by_five P at (a ∷ []) size = absurd (omega arith)
by_five P at (a ∷ b ∷ []) size = absurd (omega arith)
by_five P at (a ∷ b ∷ c ∷ []) size = absurd (omega arith)
by_five P at (a ∷ b ∷ c ∷ d ∷ []) size = absurd (omega arith)
by_five P at (a ∷ b ∷ c ∷ d ∷ e ∷ []) size = at a b c d e
by_five P at (a ∷ b ∷ c ∷ d ∷ e ∷ f ∷ code) size = absurd (omega arith)

-- a frame with its buttons, or seconds
frame_of : (a b c d e : ℕ) → a ≡ 0 → is_input (record { code = a ∷ b ∷ c ∷ d ∷ e ∷ [] }) ≡ true → record { code = a ∷ b ∷ c ∷ d ∷ e ∷ [] } ≡ frame b
unfolding is_input
frame_of a b c d e zeroth is =
    let c0 : c ≡ 0 = grind (arith, nat_tests) in
    let d0 : d ≡ 0 = grind (arith, nat_tests) in
    let e0 : e ≡ 0 = grind (arith, nat_tests) in
    λ i. record { code = zeroth i ∷ b ∷ c0 i ∷ d0 i ∷ e0 i ∷ [] }

single_at : (a b c d e : ℕ) → is_input (record { code = a ∷ b ∷ c ∷ d ∷ e ∷ [] }) ≡ true → inputs_in (single (record { code = a ∷ b ∷ c ∷ d ∷ e ∷ [] })) ≡ record { code = a ∷ b ∷ c ∷ d ∷ e ∷ [] } ∷ []
unfolding single inputs_in
single_at a b c d e is = elim (cases_eq a 0) [
  | inl zeroth ↦
      let holds : (a == 0) ≡ true = grind (arith, nat_tests) in
      ap (λ (t : Bool). inputs_in (record { code = if t then 0 ∷ b ∷ to_le_bytes w32 1 else a ∷ b ∷ c ∷ d ∷ e ∷ 0 ∷ [] })) holds
      ∙ ap (λ (x : Entry). x ∷ []) (sym (frame_of a b c d e zeroth is))
  | inr other ↦
      let fails : (a == 0) ≡ false = grind (arith, nat_tests) in
      ap (λ (t : Bool). inputs_in (record { code = if t then 0 ∷ b ∷ to_le_bytes w32 1 else a ∷ b ∷ c ∷ d ∷ e ∷ 0 ∷ [] })) fails
      ∙ ap (λ (t : Bool). if t && nat_le 1 (run_length (record { code = a ∷ b ∷ c ∷ d ∷ e ∷ 0 ∷ [] })) && nat_le (run_length (record { code = a ∷ b ∷ c ∷ d ∷ e ∷ 0 ∷ [] })) 216000
      then replicate (run_length (record { code = a ∷ b ∷ c ∷ d ∷ e ∷ 0 ∷ [] })) (frame b) else record { code = a ∷ b ∷ c ∷ d ∷ e ∷ [] } ∷ []) fails
]

pub single_inputs : (e : Entry) → length e.code ≡ 5 → is_input e ≡ true → inputs_in (single e) ≡ e ∷ []
single_inputs e size is = by_five (λ x. is_input x ≡ true → inputs_in (single x) ≡ x ∷ []) single_at e.code size is

single_entry_at : (a b c d e : ℕ) → is_input (record { code = a ∷ b ∷ c ∷ d ∷ e ∷ [] }) ≡ true → is_entry (single (record { code = a ∷ b ∷ c ∷ d ∷ e ∷ [] })) ≡ true
unfolding single is_entry is_input
single_entry_at a b c d e is = elim (cases_eq a 0) [
  | inl zeroth ↦
      let holds : (a == 0) ≡ true = grind (arith, nat_tests) in
      ap (λ (t : Bool). is_entry (record { code = if t then 0 ∷ b ∷ to_le_bytes w32 1 else a ∷ b ∷ c ∷ d ∷ e ∷ 0 ∷ [] })) holds
  | inr other ↦
      let fails : (a == 0) ≡ false = grind (arith, nat_tests) in
      let one : (a == 1) ≡ true = grind (arith, nat_tests) in
      ap (λ (t : Bool). is_entry (record { code = if t then 0 ∷ b ∷ to_le_bytes w32 1 else a ∷ b ∷ c ∷ d ∷ e ∷ 0 ∷ [] })) fails
      ∙ (λ i. (fails i && nat_le 1 (run_length (record { code = a ∷ b ∷ c ∷ d ∷ e ∷ 0 ∷ [] })) && nat_le (run_length (record { code = a ∷ b ∷ c ∷ d ∷ e ∷ 0 ∷ [] })) 216000) || (one i && true))
]

pub single_entry : (e : Entry) → length e.code ≡ 5 → is_input e ≡ true → is_entry (single e) ≡ true
single_entry e size is = by_five (λ x. is_input x ≡ true → is_entry (single x) ≡ true) single_entry_at e.code size is

-- a run that an input joins
pub record Joined (s : StoredEntry) (e : Entry) : Type 0 where
  pub stands : inputs_in s ≡ replicate (run_length s) (frame (byte 1 s.code))
  pub input : e ≡ frame (byte 1 s.code)
  pub least : 1 ≤ run_length s

joined_at : (s : StoredEntry) (a b c d e : ℕ) → is_entry s ≡ true → is_input (record { code = a ∷ b ∷ c ∷ d ∷ e ∷ [] }) ≡ true → joins s (record { code = a ∷ b ∷ c ∷ d ∷ e ∷ [] }) ≡ true → Joined s (record { code = a ∷ b ∷ c ∷ d ∷ e ∷ [] })
unfolding is_entry joins inputs_in
joined_at s a b c d e entry input join =
    let zeroth : a ≡ 0 = grind (arith, nat_tests) in
    let same : byte 1 s.code ≡ b = grind (arith, nat_tests) in
    let kind : byte 0 s.code ≡ 0 = grind (arith, nat_tests) in
    let low : 1 ≤ run_length s = grind (arith, nat_tests) in
    let high : run_length s ≤ 216000 = grind (arith, nat_tests) in
    let run : is_run s ≡ true = grind (arith, nat_tests) in
    record {
      stands = ap (λ (t : Bool). if t then replicate (run_length s) (frame (byte 1 s.code)) else record { code = take 5 s.code } ∷ []) run;
      input = frame_of a b c d e zeroth input ∙ ap frame (sym same);
      least = low;
    }

pub joined : (s : StoredEntry) (e : Entry) → length e.code ≡ 5 → is_entry s ≡ true → is_input e ≡ true → joins s e ≡ true → Joined s e
joined s e size entry = by_five (λ x. is_input x ≡ true → joins s x ≡ true → Joined s x) (λ a b c d e. joined_at s a b c d e entry) e.code size

is_run_now : (b n : ℕ) → 1 ≤ n → n ≤ 216000 → is_run (record { code = 0 ∷ b ∷ to_le_bytes w32 n }) ≡ true
is_run_now b n low high =
    let back : from_le_bytes w32 (to_le_bytes w32 n) ≡ n = from_le_bytes-to_le_bytes_4 n (omega arith) in
    ap (λ k. nat_le 1 k && nat_le k 216000) back ∙ (grind (arith, nat_tests))

pub longer_inputs : (s : StoredEntry) (e : Entry) → Joined s e → run_length s < 216000 → inputs_in (longer s) ≡ inputs_in s ++ e ∷ []
unfolding longer inputs_in
longer_inputs s e j room =
    let n = run_length s in
    let x : Entry = frame (byte 1 s.code) in
    let back : from_le_bytes w32 (to_le_bytes w32 (n + 1)) ≡ n + 1 = from_le_bytes-to_le_bytes_4 (n + 1) (omega arith) in
    ap (λ (t : Bool). if t then replicate (run_length (longer s)) x else record { code = take 5 (longer s).code } ∷ []) (is_run_now (byte 1 s.code) (n + 1) (omega arith) (omega arith))
    ∙ ap (λ k. replicate k x) back ∙ sym (replicate-append-replicate n 1 x)
    ∙ (λ i. sym j.stands i ++ sym j.input i ∷ [])

pub longer_entry : (s : StoredEntry) → run_length s < 216000 → is_entry (longer s) ≡ true
unfolding longer is_entry
longer_entry s room = ap (λ (t : Bool). t || is_seconds (longer s)) (is_run_now (byte 1 s.code) (run_length s + 1) (omega arith) (omega arith))

pub inputs-append : (xs ys : List StoredEntry) → inputs (xs ++ ys) ≡ inputs xs ++ inputs ys
inputs-append [] ys = refl
inputs-append (x ∷ xs) ys = ap (λ l. inputs_in x ++ l) (inputs-append xs ys) ∙ sym (append_assoc (inputs_in x) (inputs xs) (inputs ys))

pub entries-append : (xs ys : List StoredEntry) → all_entries xs → all_entries ys → all_entries (xs ++ ys)
entries-append [] ys a b = b
entries-append (x ∷ xs) ys a b = (a.0, entries-append xs ys a.1 b)

pub entries-take : (n : ℕ) (log : List StoredEntry) → all_entries log → all_entries (take n log)
entries-take zero log are = tt
entries-take (suc n) [] are = tt
entries-take (suc n) (s ∷ log) are = (are.0, entries-take n log are.1)

pub entries-drop : (n : ℕ) (log : List StoredEntry) → all_entries log → all_entries (drop n log)
entries-drop zero log are = are
entries-drop (suc n) [] are = tt
entries-drop (suc n) (s ∷ log) are = entries-drop n log are.1
