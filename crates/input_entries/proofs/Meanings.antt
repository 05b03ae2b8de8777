-- What an entry stands for, by its kind.
use Rattle.std.proofs.Common.{◌≡◌, ◌||◌, inl, inr, ◌≤◌, ◌==◌, ◌<◌, ℕ, zero, suc, List, [], ◌∷◌, length, take, drop, get_or, Bool, true, false, if◌then◌else◌, sym, ap, ◌∙◌, arith, refl}
use Rattle.std.proofs.lemmas.List.{length-replicate}
use Rattle.std.proofs.lemmas.Bool.{cases_Bool}
use Rattle.std.proofs.lemmas.Bool.Decides.{nat_tests}
use Rattle.std.proofs.lemmas.Nat.{le_bytes_4}
use Rattle.std.specs.Int.{w32, from_le_bytes, to_le_bytes}
use lib.ListN.{replicate}
use Rattle.input_entries.specs.Bytes.{byte}
use Rattle.input_entries.specs.Inputs.{frame, seconds, run_length, is_run, is_seconds, is_entry, inputs_in, inputs_logged}
use Rattle.input_entries.specs.declared.StoredEntry.{StoredEntry}
use Rattle.input_entries.specs.declared.logged.Logged.TheVariants.{Frames, Seconds}

pub run_logged : (s : StoredEntry) (times : ℕ) → is_run s ≡ true → times ≡ run_length s → (is_entry s ≡ true) × (inputs_in s ≡ inputs_logged (Frames (byte 1 s.code) times))
unfolding is_entry inputs_in
run_logged s times run is = (
  ap (λ (t : Bool). t || is_seconds s) run,
  ap (λ (t : Bool). if t then replicate (run_length s) (frame (byte 1 s.code)) else record { code = take 5 s.code } ∷ []) run ∙ ap (λ n. replicate n (frame (byte 1 s.code))) (sym is),
)

five_of_seconds : (code : List ℕ) (n : ℕ) → length code ≡ 6 → (byte 0 code == 1) ≡ true → to_le_bytes w32 n ≡ take 4 (drop 1 code) → take 5 code ≡ 1 ∷ to_le_bytes w32 n
five_of_seconds [] n size kind is = absurd (omega arith)
five_of_seconds (a ∷ rest) n size kind is =
    let one : a ≡ 1 = grind (arith, nat_tests) in
    (λ i. one i ∷ sym is i)

pub seconds_logged : (s : StoredEntry) (n : ℕ) → is_run s ≡ false → is_seconds s ≡ true → length s.code ≡ 6 → to_le_bytes w32 n ≡ take 4 (drop 1 s.code) → (is_entry s ≡ true) × (inputs_in s ≡ inputs_logged (Seconds n))
unfolding is_entry inputs_in
seconds_logged s n run is_so size is =
    let kind : (byte 0 s.code == 1) ≡ true = grind (arith, nat_tests) in
    let five = five_of_seconds s.code n size kind is in (
      (λ i. run i || is_so i),
      ap (λ (t : Bool). if t then replicate (run_length s) (frame (byte 1 s.code)) else record { code = take 5 s.code } ∷ []) run ∙ (λ i. record { code = five i } ∷ []),
    )

-- four bytes of an entry as a number
pub four_of : (code : List ℕ) (n : ℕ) → length code ≡ 6 → (get_or code 1 0 < 256) × (get_or code 2 0 < 256) × (get_or code 3 0 < 256) × (get_or code 4 0 < 256)
    → n ≡ from_le_bytes w32 (get_or code 1 0 ∷ get_or code 2 0 ∷ get_or code 3 0 ∷ get_or code 4 0 ∷ []) → to_le_bytes w32 n ≡ take 4 (drop 1 code)
four_of [] n size bytes is = absurd (omega arith)
four_of (a ∷ []) n size bytes is = absurd (omega arith)
four_of (a ∷ b ∷ []) n size bytes is = absurd (omega arith)
four_of (a ∷ b ∷ c ∷ []) n size bytes is = absurd (omega arith)
four_of (a ∷ b ∷ c ∷ d ∷ []) n size bytes is = absurd (omega arith)
four_of (a ∷ b ∷ c ∷ d ∷ e ∷ rest) n size bytes is = le_bytes_4 (b ∷ c ∷ d ∷ e ∷ []) n refl within is
  where
    within : (k : ℕ) → get_or (b ∷ c ∷ d ∷ e ∷ []) k 0 < 256
    within zero = bytes.0
    within (suc zero) = bytes.1
    within (suc (suc zero)) = bytes.2
    within (suc (suc (suc zero))) = bytes.3
    within (suc (suc (suc (suc k)))) = omega arith

pub none_logged : (s : StoredEntry) → is_run s ≡ false → is_seconds s ≡ false → is_entry s ≡ false
unfolding is_entry
none_logged s run seconds = λ i. run i || seconds i

-- ---- how many inputs

abbrev pub own_count : StoredEntry → ℕ
own_count s = if is_entry s then length (inputs_in s) else 0

pub run_counts : (s : StoredEntry) → is_run s ≡ true → run_length s ≡ own_count s
unfolding is_entry inputs_in
run_counts s run =
    sym (ap (λ (t : Bool). if t || is_seconds s then length (if t then replicate (run_length s) (frame (byte 1 s.code)) else record { code = take 5 s.code } ∷ []) else 0) run
    ∙ length-replicate (run_length s) (frame (byte 1 s.code)))

pub seconds_count : (s : StoredEntry) → is_run s ≡ false → is_seconds s ≡ true → 1 ≡ own_count s
unfolding is_entry inputs_in
seconds_count s run seconds =
    sym ((λ i. if run i || seconds i then length (if run i then replicate (run_length s) (frame (byte 1 s.code)) else record { code = take 5 s.code } ∷ []) else 0))

pub none_counts : (s : StoredEntry) → is_run s ≡ false → is_seconds s ≡ false → 0 ≡ own_count s
unfolding is_entry
none_counts s run seconds = sym ((λ i. if run i || seconds i then length (inputs_in s) else 0))

pub inputs_size : (s : StoredEntry) → length (inputs_in s) ≡ (if is_run s then run_length s else 1)
unfolding inputs_in
inputs_size s = go (is_run s)
  where
    go : (b : Bool) → length (if b then replicate (run_length s) (frame (byte 1 s.code)) else record { code = take 5 s.code } ∷ []) ≡ (if b then run_length s else 1)
    go true = length-replicate (run_length s) (frame (byte 1 s.code))
    go false = refl

pub some_inputs : (s : StoredEntry) → is_entry s ≡ true → 1 ≤ length (inputs_in s)
unfolding is_entry
some_inputs s entry = elim (cases_Bool (is_run s)) [
  | inl run ↦ let low : 1 ≤ run_length s = grind (arith, nat_tests) in omega (arith, low, inputs_size s ∙ ap (λ (t : Bool). if t then run_length s else 1) run)
  | inr fails ↦ omega (arith, inputs_size s ∙ ap (λ (t : Bool). if t then run_length s else 1) fails)
]

pub not_entry : (s : StoredEntry) → 0 ≡ own_count s → is_entry s ≡ false
not_entry s none = elim (cases_Bool (is_entry s)) [
  | inl entry ↦ let same : 0 ≡ length (inputs_in s) = none ∙ ap (λ (t : Bool). if t then length (inputs_in s) else 0) entry in absurd (omega (arith, same, some_inputs s entry))
  | inr fails ↦ fails
]

pub an_entry : (s : StoredEntry) (n : ℕ) → n ≡ own_count s → 0 < n → is_entry s ≡ true
an_entry s n is some = elim (cases_Bool (is_entry s)) [
  | inl entry ↦ entry
  | inr fails ↦ absurd (omega (arith, is ∙ ap (λ (t : Bool). if t then length (inputs_in s) else 0) fails, some))
]

pub counts_all : (s : StoredEntry) (n : ℕ) → n ≡ own_count s → is_entry s ≡ true → n ≡ length (inputs_in s)
counts_all s n is entry = is ∙ ap (λ (t : Bool). if t then length (inputs_in s) else 0) entry
