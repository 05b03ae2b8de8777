-- What contents stand for.
use Rattle.std.proofs.Common.{◌≡◌, ◌&&◌, inl, inr, ℕ, ◌+◌, ◌<◌, ◌^◌, List, [], ◌∷◌, ◌++◌, length, true, if◌then◌else◌, Option, Some, None, refl, sym, ap, ◌∙◌, arith, length-append}
use Rattle.std.specs.Prelude.{is_none}
use Rattle.std.specs.List.{All, list_all}
use Rattle.std.specs.Str.{bytes_eq}
use Rattle.std.proofs.lemmas.Bool.{cases_Bool, and_parts, ltb-true, lt-ltb, eq-eqb}
use Rattle.std.proofs.lemmas.Slice.Eq.{bytes_eq-Decides}
use Rattle.std.proofs.lemmas.List.{map-append, length-map}
use Rattle.std.proofs.lemmas.List.Sums.{fold-append}
use Rattle.std.proofs.lemmas.List.Elements.{All-head, All-tail}
use Rattle.sha2.specs.Sha256.{sha256}
use Rattle.cartridge.specs.Header.{ram_length_of}
use Rattle.machine.specs.Machine.{MachineState, after, applied}
use Rattle.machine.specs.Machine.{Input}
use Rattle.snapshot.specs.Encoding.{encoded, snapshot_length}
use Rattle.snapshot.specs.Table.{is_legal, table_of}
use Rattle.snapshot.specs.Reading.{machine_in}
use Rattle.snapshot.specs.Legal.{IsMachineOf, IsLegalSnapshot}
use Rattle.snapshot.specs.declared.field.SnapshotField.{SnapshotField}
use Rattle.snapshot.proofs.Machines.{machine_back, encoded_legal}
use Rattle.log_format.specs.Content.{Body}
use Rattle.input_entries.specs.Inputs.{inputs}
use Rattle.log_format.specs.Inputs.{counted, first_wrong, AreInputs}
use Rattle.input_entries.specs.declared.Entry.{Entry}
use Rattle.log_format.specs.declared.content.Header.{Header}
use Rattle.log_format.proofs.FoundLaws.{counts_inputs}
use Rattle.log_format.proofs.Wrong.{none_wrong}
use Rattle.session.specs.Inputs.{input_of, inputs_of, logged}
use Rattle.session.specs.Stands.{Position, is_snapshot, is_sound, position_in, stands}
use Rattle.session.specs.Laws.{MoreInputsStandFurther, ASnapshotStandsForItsMachine}

-- ---- machines after inputs

pub after_append : (m : MachineState) (first second : List Input) → after (after m first) second ≡ after m (first ++ second)
unfolding after
after_append m first second = sym (fold-append (λ (n : MachineState) (input : Input). applied input n) m first second)

pub after_none : (m : MachineState) → after m [] ≡ m
unfolding after
after_none m = refl

pub after_one : (m : MachineState) (input : Input) → after m (input ∷ []) ≡ applied input m
unfolding after
after_one m input = refl

pub logged_append : (first second : List Entry) → inputs_of (first ++ second) ≡ inputs_of first ++ inputs_of second
logged_append first second = map-append input_of first second

-- ---- legal snapshots

legal_fields : (fields : List SnapshotField) (bytes : List ℕ) → All (λ field. is_legal field bytes ≡ true) fields → list_all (λ field. is_legal field bytes) fields ≡ true
legal_fields [] bytes all = refl
legal_fields (f ∷ fields) bytes all = λ i. All-head (λ (field : SnapshotField). is_legal field bytes ≡ true) f fields all i && legal_fields fields bytes (All-tail (λ (field : SnapshotField). is_legal field bytes ≡ true) f fields all) i

pub legal_is_snapshot : (rom bytes : List ℕ) → IsLegalSnapshot rom bytes → is_snapshot rom bytes ≡ true
legal_is_snapshot rom bytes legal = λ i. eq-eqb (length bytes) (snapshot_length (ram_length_of rom)) legal.length i && legal_fields (table_of rom) bytes legal.fields i

pub encoded_is_snapshot : (rom : List ℕ) (m : MachineState) → IsMachineOf rom m → is_snapshot rom (encoded m) ≡ true
encoded_is_snapshot rom m of = legal_is_snapshot rom (encoded m) (encoded_legal rom m of)

-- ---- sound contents

pub record Soundness (rom : List ℕ) (header : Header) (body : Body) : Type 0 where
  pub id : bytes_eq header.id (sha256 rom) ≡ true
  pub count : header.base + counted 0 body.log < 2 ^ 64
  pub snapshot : is_snapshot rom body.blob ≡ true
  pub inputs : first_wrong body.log ≡ None

none_of : (o : Option ℕ) → is_none o ≡ true → o ≡ None
none_of None e = refl
none_of (Some n) e = absurd (cc)

pub soundness : (rom : List ℕ) (header : Header) (body : Body) → is_sound rom header body ≡ true → Soundness rom header body
soundness rom header body sound =
    let a = and_parts _ _ sound in
    let b = and_parts _ _ a.1 in
    let c = and_parts _ _ b.1 in
    record { id = a.0; count = ltb-true _ _ b.0; snapshot = c.0; inputs = none_of (first_wrong body.log) c.1 }

pub sound_by : (rom : List ℕ) (header : Header) (body : Body) → Soundness rom header body → is_sound rom header body ≡ true
sound_by rom header body s =
    λ i. s.id i && (lt-ltb (header.base + counted 0 body.log) (2 ^ 64) s.count i && (s.snapshot i && is_none (s.inputs i)))

-- ---- what they stand for

pub stands_sound : (rom : List ℕ) (header : Header) (body : Body) → is_sound rom header body ≡ true → stands rom (Some (record { header = header; body = Some body })) ≡ Some (position_in rom header body)
unfolding stands
stands_sound rom header body sound = λ i. if sound i then Some (position_in rom header body) else None

-- what stands for something is sound
pub record Standing (rom : List ℕ) (header : Header) (body : Body) (from : Position) : Type 0 where
  pub sound : is_sound rom header body ≡ true
  pub position : position_in rom header body ≡ from

pub standing : (rom : List ℕ) (header : Header) (body : Body) (from : Position) → stands rom (Some (record { header = header; body = Some body })) ≡ Some from → Standing rom header body from
unfolding stands
standing rom header body from is =
    elim (cases_Bool (is_sound rom header body)) [
      | inl sound ↦
          let here : Some (position_in rom header body) ≡ Some from = sym (λ i. if sound i then Some (position_in rom header body) else None) ∙ is in
          record { sound = sound; position = cc }
      | inr fails ↦
          let none : None ≡ Some from = sym (λ i. if fails i then Some (position_in rom header body) else None) ∙ is in
          absurd (cc)
    ]

-- more inputs behind the log
pub more_stands : MoreInputsStandFurther
more_stands rom old new more from adds is few =
    let was : Body = record { blob = adds.blob; log = adds.before } in
    let now : Body = record { blob = adds.blob; log = adds.after } in
    let stood = standing rom adds.header was from (sym (ap (stands rom) adds.old_is) ∙ is) in
    let parts = soundness rom adds.header was stood.sound in
    let are : AreInputs adds.before = (none_wrong adds.before).0 parts.inputs in
    let size : length (inputs adds.after) ≡ length (inputs adds.before) + length more = ap length adds.adds ∙ length-append (inputs adds.before) more in
    let from_count : adds.header.base + length (inputs adds.before) ≡ from.count = ap (λ (p : Position). p.count) stood.position in
    let from_machine : after (machine_in rom adds.blob) (logged adds.before) ≡ from.machine = ap (λ (p : Position). p.machine) stood.position in
    let sound : is_sound rom adds.header now ≡ true =
    sound_by rom adds.header now (record {
      id = parts.id;
      count = omega (arith, counts_inputs adds.after adds.are, size, from_count, few);
      snapshot = parts.snapshot;
      inputs = (none_wrong adds.after).1 adds.are;
    }) in
    let machine_is : after (machine_in rom adds.blob) (logged adds.after) ≡ after from.machine (inputs_of more) =
    ap (λ (l : List Entry). after (machine_in rom adds.blob) (inputs_of l)) adds.adds
    ∙ ap (after (machine_in rom adds.blob)) (logged_append (inputs adds.before) more)
    ∙ sym (after_append (machine_in rom adds.blob) (logged adds.before) (inputs_of more))
    ∙ ap (λ (m : MachineState). after m (inputs_of more)) from_machine in
    let count_is : adds.header.base + length (inputs adds.after) ≡ from.count + length (inputs_of more) = omega (arith, size, from_count, length-map more input_of) in
    ap (stands rom) adds.new_is ∙ stands_sound rom adds.header now sound ∙ (λ i. Some (record { count = count_is i; machine = machine_is i }))

-- a snapshot of a machine
pub new_stands : ASnapshotStandsForItsMachine
new_stands rom m base of few =
    let header : Header = record { id = sha256 rom; base = base; blob_length = length (encoded m) } in
    let body : Body = record { blob = encoded m; log = [] } in
    let same : bytes_eq (sha256 rom) (sha256 rom) ≡ true = (bytes_eq-Decides (sha256 rom) (sha256 rom)).1 refl in
    let sound : is_sound rom header body ≡ true = sound_by rom header body (record { id = same; count = omega (arith, few); snapshot = encoded_is_snapshot rom m of; inputs = refl }) in
    let machine_is : after (machine_in rom (encoded m)) [] ≡ m = after_none (machine_in rom (encoded m)) ∙ machine_back rom m of in
    let count_is : base + 0 ≡ base = omega arith in
    stands_sound rom header body sound ∙ (λ i. Some (record { count = count_is i; machine = machine_is i }))
