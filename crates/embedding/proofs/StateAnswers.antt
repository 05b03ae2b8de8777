-- Bytes that are given as a state: their machine, and what is answered to them.
use Rattle.std.proofs.Common.{◌≡◌, ◌-◌, ◌^◌, ℕ, Bool, true, false, List, [], ◌++◌, length, take, drop, Result, Ok, Err, sym, ap, ◌∙◌, arith, length-drop}
use Rattle.std.specs.Prelude.{◌==◌, if◌then◌else◌, OnOk, OnErr}
use Rattle.std.proofs.lemmas.List.{take-append-drop, take_all}
use Rattle.machine.specs.Machine.{MachineState}
use Rattle.snapshot.specs.Encoding.{encoded}
use Rattle.snapshot.specs.Legal.{IsFault}
use Rattle.snapshot.specs.declared.error.SnapError.{SnapError}
use Rattle.snapshot.specs.declared.error.SnapError.TheVariants.{SnapLength, Field, Memory as NoRoom}
use Rattle.state_header.specs.States.{header_of, state_of}
use Rattle.session.specs.Calls.{input_answer, most_unsaved, IsRestoreAnswer}
use Rattle.session.specs.declared.error.Damage.{Damage}
use Rattle.session.specs.declared.error.Damage.TheVariants.{Count, Snapshot, Entry}
use Rattle.session.specs.declared.error.SessionError.{SessionError}
use Rattle.session.specs.declared.error.SessionError.TheVariants.{Memory, Device, NoSession, TooSmall, OtherCartridge, Damaged, GenerationsUsedUp, Broken, SaveFirst, CountFull, Output}
use Rattle.embedding.specs.States.{refusal_or}

-- ---- behind a header of this ROM

-- a slice to the end
pub behind_header : (bytes : List ℕ) → take (length bytes - 40) (drop 40 bytes) ≡ drop 40 bytes
behind_header bytes = take_all (length bytes - 40) (drop 40 bytes) (omega (arith, length-drop 40 bytes))

pub state_is : (rom bytes : List ℕ) (machine : MachineState) → take 40 bytes ≡ header_of rom → machine.processor.memory.banks.rom ≡ rom → encoded machine ≡ drop 40 bytes
    → state_of machine ≡ bytes
state_is rom bytes machine header own snapshot =
    ap (λ (of : List ℕ). header_of of ++ encoded machine) own
    ∙ ap (λ (front : List ℕ). front ++ encoded machine) (sym header)
    ∙ ap (λ (behind : List ℕ). take 40 bytes ++ behind) snapshot
    ∙ take-append-drop 40 bytes

-- ---- behind none

-- no snapshot has no bytes
no_bytes : (rom : List ℕ) (fault : SnapError) → IsFault rom [] fault → fault ≡ SnapLength 0
no_bytes rom (SnapLength n) is = ap SnapLength is.0
no_bytes rom (Field at) is = absurd (omega (arith, is.0))
no_bytes rom NoRoom is = absurd is

-- what a session answers to no bytes
pub none_answer : (rom : List ℕ) (taken answer : Result Unit SessionError) → IsRestoreAnswer rom [] taken answer
    → answer ≡ Err (refusal_or taken (Damaged (Snapshot (SnapLength 0))))
none_answer rom (Err why) answer is = is
none_answer rom (Ok done) (Ok same) is = absurd (omega (arith, is.length))
none_answer rom (Ok done) (Err (Damaged (Snapshot fault))) is = ap (λ (f : SnapError). Err (Damaged (Snapshot f))) (no_bytes rom fault is)
none_answer rom (Ok done) (Err (Damaged Count)) is = absurd is
none_answer rom (Ok done) (Err (Damaged (Entry at))) is = absurd is
none_answer rom (Ok done) (Err Memory) is = absurd is
none_answer rom (Ok done) (Err Device) is = absurd is
none_answer rom (Ok done) (Err NoSession) is = absurd is
none_answer rom (Ok done) (Err (TooSmall needed)) is = absurd is
none_answer rom (Ok done) (Err OtherCartridge) is = absurd is
none_answer rom (Ok done) (Err GenerationsUsedUp) is = absurd is
none_answer rom (Ok done) (Err Broken) is = absurd is
none_answer rom (Ok done) (Err SaveFirst) is = absurd is
none_answer rom (Ok done) (Err CountFull) is = absurd is
none_answer rom (Ok done) (Err Output) is = absurd is

abbrev chosen : (broken first last : Bool) → Result Unit SessionError
chosen broken first last = if broken then Err Broken else (if first then Err SaveFirst else (if last then Err CountFull else Ok tt))

-- why an input is not taken is no damage
not_damaged : (broken first last : Bool) (what : Damage) → chosen broken first last ≡ Err (Damaged what) → ⊥
not_damaged true first last what is = cc
not_damaged false true last what is = cc
not_damaged false false true what is = cc
not_damaged false false false what is = cc

module _ (answer result : Result Unit SessionError) (damaged : (what : Damage) → answer ≡ Err (Damaged what) → result ≡ Err OtherCartridge)
    (same : ((what : Damage) → answer ≡ Err (Damaged what) → ⊥) → result ≡ answer) where
  told : (taken : Result Unit SessionError) (what : Damage) → ((any : Damage) → taken ≡ Err (Damaged any) → ⊥) → answer ≡ Err (refusal_or taken (Damaged what))
      → result ≡ Err (refusal_or taken OtherCartridge)
  told (Err why) what whole is = same (λ any e. whole any (sym is ∙ e)) ∙ is
  told (Ok done) what whole is = damaged what is

  -- that of another ROM, where a session would answer an input so
  pub told_answer : (rom : List ℕ) (broken : Bool) (pending all : ℕ) → IsRestoreAnswer rom [] (input_answer broken pending all) answer
      → result ≡ Err (refusal_or (input_answer broken pending all) OtherCartridge)
  told_answer rom broken pending all is =
      let taken = input_answer broken pending all in
      told taken (Snapshot (SnapLength 0)) (not_damaged broken (pending == most_unsaved) (all == 2 ^ 64 - 1)) (none_answer rom taken answer is)

-- ---- what follows of an answer

pub on_ok : {T E P Q : Type 0} (r : Result T E) → OnOk r P → (P → Q) → OnOk r Q
on_ok (Ok x) p to = to p
on_ok (Err e) p to = tt

pub on_err : {T E P : Type 0} (r : Result T E) → P → OnErr r P
on_err (Ok x) p = tt
on_err (Err e) p = p

pub never_ok : {T E : Type 0} {e : E} (P : Type 0) (r : Result T E) → r ≡ Err e → OnOk r P
never_ok P (Ok x) is = absurd cc
never_ok P (Err e) is = tt

pub of_err : {T E P : Type 0} {e : E} (r : Result T E) → r ≡ Err e → OnErr r P → P
of_err (Ok x) is p = absurd cc
of_err (Err e) is p = p
