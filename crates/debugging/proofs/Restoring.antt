-- A machine that is given as its snapshot, or as its state.
use Rattle.std.proofs.Common.{◌≡◌, ◌≢◌, ◌⊎◌, inl, inr, ℕ, Bool, true, false, List, [], ◌∷◌, ◌++◌, length, take, refl, sym, ap, subst, ◌∙◌, ◌==◌}
use Rattle.std.specs.Prelude.{if◌then◌else◌}
use Rattle.std.specs.List.{All, list_all}
use Rattle.std.proofs.lemmas.Bool.{eqb-true, eq-eqb, and_parts}
use Rattle.std.proofs.lemmas.List.Elements.{All-nil, All-cons, All-head, All-tail}
use Rattle.std.specs.Str.{bytes_eq}
use Rattle.std.proofs.lemmas.Slice.Eq.{bytes_eq-Decides}
use Rattle.cartridge.specs.Header.{ram_length_of}
use Rattle.machine.specs.Machine.{MachineState}
use Rattle.snapshot.specs.declared.field.SnapshotField.{SnapshotField}
use Rattle.snapshot.specs.Encoding.{encoded, snapshot_length}
use Rattle.snapshot.specs.Legal.{IsMachineOf, IsOfImage, IsLegalSnapshot}
use Rattle.snapshot.specs.Reading.{machine_in}
use Rattle.snapshot.specs.Table.{is_legal, table_of}
use Rattle.snapshot.proofs.Machines.{machine_back, encoded_legal}
use Rattle.state_header.specs.States.{header_of, snapshot_in, IsLegalState}
use Rattle.state_header.proofs.States.{header_is, header_long, rest_is}
use Rattle.debugger.specs.History.{DebuggerState}
use Rattle.sm83_processor.specs.declared.step.Executed.{Executed}
use Rattle.debugging.specs.declared.position.Played.{Played}
use Rattle.debugging.specs.Run.{RunState}
use Rattle.debugging.specs.States.{after_snapshot, is_given, is_snapshot, is_state, restored, rom_of}
use Rattle.debugging.specs.Answers.{after_restore}

all_true : {X : Type 0} (p : X → Bool) (xs : List X) → All (λ x. p x ≡ true) xs → list_all p xs ≡ true
all_true p [] h = refl
all_true p (x ∷ xs) h = rw (All-head (λ x. p x ≡ true) x xs h, all_true p xs (All-tail (λ x. p x ≡ true) x xs h)) refl

true_all : {X : Type 0} (p : X → Bool) (xs : List X) → list_all p xs ≡ true → All (λ x. p x ≡ true) xs
true_all p [] e = All-nil (λ x. p x ≡ true)
true_all p (x ∷ xs) e = let both = and_parts _ _ e in All-cons (λ x. p x ≡ true) x xs both.0 (true_all p xs both.1)

pub legal_is : (rom bytes : List ℕ) → IsLegalSnapshot rom bytes → is_snapshot rom bytes ≡ true
legal_is rom bytes legal = rw (eq-eqb (length bytes) (snapshot_length (ram_length_of rom)) legal.length, all_true (λ (field : SnapshotField). is_legal field bytes) (table_of rom) legal.fields) refl

pub is_legal_snapshot : (rom bytes : List ℕ) → is_snapshot rom bytes ≡ true → IsLegalSnapshot rom bytes
is_legal_snapshot rom bytes e =
    let both = and_parts _ _ e in
    record { length = eqb-true _ _ both.0; fields = true_all (λ (field : SnapshotField). is_legal field bytes) (table_of rom) both.1 }

not_true : (b : Bool) → (b ≡ true → ⊥) → b ≡ false
not_true true never = absurd (never refl)
not_true false never = refl

illegal_is : (rom bytes : List ℕ) → (IsLegalSnapshot rom bytes → ⊥) → is_snapshot rom bytes ≡ false
illegal_is rom bytes illegal = not_true (is_snapshot rom bytes) (λ e. illegal (is_legal_snapshot rom bytes e))

pub given_machine : (rom bytes : List ℕ) (m : MachineState) → IsMachineOf rom m → encoded m ≡ bytes → IsLegalSnapshot rom bytes × (machine_in rom bytes ≡ m)
given_machine rom bytes m of same =
    (subst (IsLegalSnapshot rom) same (encoded_legal rom m of), ap (machine_in rom) (sym same) ∙ machine_back rom m of)

module _ (rom bytes : List ℕ) (r : RunState) (of : IsOfImage rom r.debugger.machine) where
  own : is_snapshot (rom_of r) bytes ≡ is_snapshot rom bytes
  own = ap (λ (x : List ℕ). is_snapshot x bytes) of.rom

  pub machine_given : (m : MachineState) → IsMachineOf rom m → encoded m ≡ bytes
      → (is_snapshot (rom_of r) bytes ≡ true) × (after_snapshot bytes r ≡ record r { debugger = record r.debugger { machine = m; history = [] } })
  machine_given m is same =
      let made = given_machine rom bytes m is same in
      let t = own ∙ legal_is rom bytes made.0 in
      let here : machine_in (rom_of r) bytes ≡ m = ap (λ (x : List ℕ). machine_in x bytes) of.rom ∙ made.1 in
      (t, rw (t, here) refl)

  pub nothing_given : (IsLegalSnapshot rom bytes → ⊥) → (is_snapshot (rom_of r) bytes ≡ false) × (after_snapshot bytes r ≡ r)
  nothing_given illegal =
      let f = own ∙ illegal_is rom bytes illegal in
      (f, rw f refl)

-- a run of the parts of another one
pub given_run : (r : RunState) (d : DebuggerState) (m : MachineState) (size : ℕ) (history : List Executed) (sent : List ℕ) (played : Played) → d ≡ record { machine = m; size = size; history = history } → size ≡ r.debugger.size → history ≡ []
    → sent ≡ r.sent → played ≡ r.played → record { debugger = d; sent = sent; played = played } ≡ record r { debugger = record r.debugger { machine = m; history = [] } }
given_run r d m size history sent played is same none kept counted = rw (is, same, none, kept, counted) refl

pub same_run : (r : RunState) (d : DebuggerState) (m : MachineState) (size : ℕ) (history : List Executed) (sent : List ℕ) (played : Played) → d ≡ record { machine = m; size = size; history = history } → m ≡ r.debugger.machine
    → size ≡ r.debugger.size → history ≡ r.debugger.history → sent ≡ r.sent → played ≡ r.played → record { debugger = d; sent = sent; played = played } ≡ r
same_run r d m size history sent played is machine same all kept counted = rw (is, machine, same, all, kept, counted) refl

-- ---- behind a line

not_equal : (a b : ℕ) → (a ≡ b → ⊥) → (a == b) ≡ false
not_equal a b never = not_true (a == b) (λ e. never (eqb-true a b e))

is_legal_state : (rom bytes : List ℕ) → is_state rom bytes ≡ true → IsLegalState rom bytes
is_legal_state rom bytes e =
    let both = and_parts _ _ e in
    record { header = (bytes_eq-Decides (take 40 bytes) (header_of rom)).0 both.0; snapshot = is_legal_snapshot rom (snapshot_in bytes) both.1 }

-- bytes that are not as many as they are said to be, or no state
pub not_given : (rom : List ℕ) (n : ℕ) (bytes : List ℕ) (r : RunState) → rom_of r ≡ rom → (length bytes ≢ n) ⊎ (IsLegalState rom bytes → ⊥) → is_given n bytes r ≡ false
not_given rom n bytes r is (inl other) = rw (not_equal (length bytes) n other) refl
not_given rom n bytes r is (inr illegal) = not_true (is_given n bytes r) (λ e.
    illegal (is_legal_state rom bytes (ap (λ (x : List ℕ). is_state x bytes) (sym is) ∙ (and_parts _ _ e).1)))

-- a header of this ROM, and any bytes
module _ (rom snapshot : List ℕ) (r : RunState) (is : rom_of r ≡ rom) where
  abbrev bytes : List ℕ
  bytes = header_of rom ++ snapshot

  pub given_is : is_given (length bytes) bytes r ≡ is_snapshot (rom_of r) snapshot
  given_is =
      let all : (length bytes == length bytes) ≡ true = eq-eqb (length bytes) (length bytes) refl in
      let header : bytes_eq (take 40 bytes) (header_of (rom_of r)) ≡ true =
      (bytes_eq-Decides (take 40 bytes) (header_of (rom_of r))).1 (header_is (header_of rom) snapshot (header_long rom) ∙ ap header_of (sym is)) in
      rw (all, header) (ap (is_snapshot (rom_of r)) (rest_is (header_of rom) snapshot (header_long rom)))

  pub after_is : after_restore (length bytes) bytes r ≡ after_snapshot snapshot r
  after_is =
      ap (λ (b : Bool). if b then restored (snapshot_in bytes) r else r) given_is
      ∙ ap (λ (s : List ℕ). if is_snapshot (rom_of r) snapshot then restored s r else r) (rest_is (header_of rom) snapshot (header_long rom))
