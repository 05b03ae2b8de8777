-- A session that is given what its recording has beyond it, one run of inputs after the other.
use Rattle.std.proofs.Common.{◌≡◌, ℕ, zero, suc, ◌+◌, ◌-◌, ◌^◌, ◌≤◌, ◌<◌, List, [], ◌∷◌, ◌++◌, length, drop, take, replicate, get_or, Bool, true, false, Result, Ok, Err, refl, sym, ap, ◌∙◌, subst, arith, append_assoc, append-nil, length-append}
use Rattle.std.specs.Prelude.{IfOk, IfErr}
use Rattle.std.proofs.Math.Seq.{take-suc}
use Rattle.std.proofs.lemmas.List.{drop_all, replicate-append-replicate, take-append-drop}
use Rattle.machine.specs.Machine.{Input, Frame, Seconds}
use Rattle.sector_device.specs.DiskState.{DiskState, HasAnswered, sector_at}
use Rattle.sector_device.specs.Looking.{LooksOnly}
use Rattle.sector_device.specs.declared.device.SectorDevice.{Ghosts as Disks}
use Rattle.sector_device.proofs.Looking.{looked_then}
use Rattle.input_entries.specs.Inputs.{inputs, inputs_in, is_entry, all_entries, frame, seconds}
use Rattle.input_entries.specs.declared.StoredEntry.{StoredEntry}
use Rattle.recording.specs.Calls.{IsReadCause}
use Rattle.recording.specs.Format.{entries_at}
use Rattle.recording.specs.Recorded.{entries, entries_up_to}
use Rattle.recording.specs.declared.fault.RecordingFault.{RecordingFault}
use Rattle.recording.specs.declared.fault.RecordingFault.TheVariants.{Device, Broken}
use Rattle.session.specs.Accessors.{pending_of, is_broken}
use Rattle.session.specs.Inputs.{inputs_of}
use Rattle.session.specs.declared.error.SessionError.{SessionError}
use Rattle.session.specs.declared.session.Session.{Session as PlaySession}
use Rattle.session.proofs.Answering.{answered_both, answered_error, answered_otherwise, answered_refused}
use Rattle.session.proofs.Replaying.{frames_of, seconds_back}
use Rattle.session.proofs.StandsLaws.{logged_append}
use Rattle.playing.specs.Played.{IsStop}
use Rattle.playing.proofs.Going.{IsNow, goes_nowhere, goes_then, no_further_then, no_further_more}
use Rattle.playing.proofs.PlayLaws.{stopped_then, stopped_by, stopped_more}
use Rattle.playing.proofs.Stops.{stops_among}
use Rattle.playing.specs.Going.{Place, place, all_of, SaveAdvances}
use Rattle.replaying.proofs.Sectors.{inputs_up_to, inputs_at, one_more, more_sectors, all_up_to, sector_entries}
use Rattle.recorded_play.specs.CatchingUp.{given_by, given_by_all, recorded_in, StopsOver, AdvancesOver, AdvancesOverRecorded, StopsOverRecorded, IsCatchUpStop}
use Rattle.recorded_play.specs.declared.error.RecordError.{RecordError}
use Rattle.recorded_play.specs.declared.error.RecordError.TheVariants.{Session}

pub goes_by : {a b : Place} {more more' : List Input} → more ≡ more' → SaveAdvances a b more → SaveAdvances a b more'
goes_by {a} {b} same goes = subst (SaveAdvances a b) same goes

pub fails_then : {a b c : Place} {first second : List Input} {why : SessionError} → SaveAdvances a b first → StopsOver b c second why → StopsOver a c (first ++ second) why
fails_then {a} {b} {c} {first} {second} {why} one two = record { no_further = no_further_then a b c first second why one two.no_further; silent = two.silent }

fails_more : {a b : Place} {first : List Input} {why : SessionError} (second : List Input) → StopsOver a b first why → StopsOver a b (first ++ second) why
fails_more {a} {b} {first} {why} second fails = record { no_further = no_further_more a b first second why fails.no_further; silent = fails.silent }

pub fails_by : {a b : Place} {more more' : List Input} {why : SessionError} → more ≡ more' → StopsOver a b more why → StopsOver a b more' why
fails_by {a} {b} {more} {more'} {why} same fails = subst (λ (l : List Input). StopsOver a b l why) same fails

-- ---- inputs of which the first are skipped

drop_both : (k : ℕ) (first second : List Input) → drop k (first ++ second) ≡ drop k first ++ drop (k - length first) second
drop_both zero [] second = refl
drop_both (suc k) [] second =
    let e : suc k ≡ suc k - length {A = Input} [] = omega arith in
    ap (λ (n : ℕ). drop n second) e
drop_both zero (i ∷ first) second =
    let e : 0 ≡ 0 - length (i ∷ first) = omega arith in
    ap (λ (n : ℕ). (i ∷ first) ++ drop n second) e
drop_both (suc k) (i ∷ first) second =
    let e : k - length first ≡ suc k - length (i ∷ first) = omega arith in
    drop_both k first second ∙ ap (λ (n : ℕ). drop k first ++ drop n second) e

pub passes_nothing : {a : Place} {skip : ℕ} → IsNow a.disk → AdvancesOver a a skip skip []
passes_nothing {a} {skip} only = record { goes = goes_by (sym (drop_all skip [] (omega arith))) (goes_nowhere a only); left_is = omega arith }

pub passes_then : {a b c : Place} {skip mid left : ℕ} {first second : List Input} → AdvancesOver a b skip mid first → AdvancesOver b c mid left second → AdvancesOver a c skip left (first ++ second)
passes_then {a} {b} {c} {skip} {first = first} {second = second} one two = record {
  goes =
      goes_by (sym (drop_both skip first second))
      (goes_then a b c (drop skip first) (drop (skip - length first) second) one.goes (subst (λ (k : ℕ). SaveAdvances b c (drop k second)) one.left_is two.goes));
  left_is = omega (arith, two.left_is, one.left_is, length-append first second);
}

pub passes_by : {a b : Place} {skip left : ℕ} {passed passed' : List Input} → passed ≡ passed' → AdvancesOver a b skip left passed → AdvancesOver a b skip left passed'
passes_by {a} {b} {skip} {left} same passes = subst (AdvancesOver a b skip left) same passes

-- in a loop over inputs, these so far
module _ {D : Type 0} {disk : Disks D} where
  pub record HasPassed (first now : PlaySession D disk) (skip left : ℕ) (passed : List Input) : Type 0 where
    pub whole : is_broken now ≡ false
    pub few : length (pending_of now) < 3200
    pub passes : AdvancesOver (place first) (place now) skip left passed

-- behind what was passed over, and before the rest
fails_within : {a b c : Place} {skip mid : ℕ} {first : List Input} {why : SessionError} (here rest : List Input) → AdvancesOver a b skip mid first → StopsOver b c (drop mid here) why → StopsOver a c (drop skip ((first ++ here) ++ rest)) why
fails_within {b = b} {c = c} {skip = skip} {first = first} {why = why} here rest one two =
    fails_by (sym (drop_both skip (first ++ here) rest))
    (fails_more (drop (skip - length (first ++ here)) rest)
    (fails_by (sym (drop_both skip first here)) (fails_then one.goes (subst (λ (k : ℕ). StopsOver b c (drop k here) why) one.left_is two))))

-- ---- entries

given_append : (first second : List StoredEntry) → given_by_all (first ++ second) ≡ given_by_all first ++ given_by_all second
given_append [] second = refl
given_append (e ∷ first) second = ap (λ (l : List Input). given_by e ++ l) (given_append first second) ∙ sym (append_assoc (given_by e) (given_by_all first) (given_by_all second))

-- where each is one, what is given is what they stand for
given_inputs : (list : List StoredEntry) → all_entries list → given_by_all list ≡ inputs_of (inputs list)
given_inputs [] all = refl
given_inputs (e ∷ list) all =
    let here : given_by e ≡ inputs_of (inputs_in e) = rw all.0 refl in
    ap (λ (l : List Input). l ++ given_by_all list) here ∙ ap (λ (l : List Input). inputs_of (inputs_in e) ++ l) (given_inputs list all.1)
    ∙ sym (logged_append (inputs_in e) (inputs list))

-- a run of frames, and seconds
pub given_frames : (entry : StoredEntry) (buttons times : ℕ) → is_entry entry ≡ true → inputs_in entry ≡ replicate times (frame buttons) → replicate times (Frame buttons) ≡ given_by entry
given_frames entry buttons times is are = rw is (sym (ap inputs_of are ∙ frames_of buttons times))

pub given_seconds : (entry : StoredEntry) (n : ℕ) → n < 2 ^ 32 → is_entry entry ≡ true → inputs_in entry ≡ seconds n ∷ [] → Seconds n ∷ [] ≡ given_by entry
given_seconds entry n fits is are = rw is (sym (ap inputs_of are ∙ ap (λ (i : Input). i ∷ []) (seconds_back n fits)))

pub given_none : (entry : StoredEntry) → is_entry entry ≡ false → [] ≡ given_by entry
given_none entry is = rw is refl

-- ---- one input

-- one that the session has
pub passes_skipped : {a : Place} {skip left : ℕ} (input : Input) → 0 < skip → left ≡ skip - 1 → IsNow a.disk → AdvancesOver a a skip left (input ∷ [])
passes_skipped {a} {skip} input some is only = record { goes = goes_by (sym (drop_all skip (input ∷ []) (omega arith))) (goes_nowhere a only); left_is = omega (arith, is) }

pub first_given : (skip : ℕ) (input : Input) → (0 < skip → ⊥) → input ∷ [] ≡ drop skip (input ∷ [])
first_given zero input none = refl
first_given (suc k) input none = absurd (none (omega arith))

-- ---- runs

pub fails_frames : {a b c : Place} {skip mid : ℕ} {why : SessionError} (input : Input) (i n : ℕ) → i < n → AdvancesOver a b skip mid (replicate i input) → StopsOver b c (drop mid (input ∷ [])) why → StopsOver a c (drop skip (replicate n input)) why
fails_frames {skip = skip} input i n less one two =
    let e : i + 1 + (n - (i + 1)) ≡ n = omega arith in
    fails_by (ap (drop skip) (ap (λ (l : List Input). l ++ replicate (n - (i + 1)) input) (replicate-append-replicate i 1 input) ∙ replicate-append-replicate (i + 1) (n - (i + 1)) input ∙ ap (λ (k : ℕ). replicate k input) e))
    (fails_within (input ∷ []) (replicate (n - (i + 1)) input) one two)

entries_next : (list : List StoredEntry) (i : ℕ) (d : StoredEntry) → i < length list → given_by_all (take (i + 1) list) ≡ given_by_all (take i list) ++ given_by (get_or list i d)
entries_next list i d less =
    let next : suc i ≡ i + 1 = omega arith in
    ap (λ (k : ℕ). given_by_all (take k list)) (sym next) ∙ ap given_by_all (take-suc list i d less)
    ∙ given_append (take i list) (get_or list i d ∷ []) ∙ ap (λ (l : List Input). given_by_all (take i list) ++ l) (append-nil (given_by (get_or list i d)))

entries_all : (list : List StoredEntry) (i : ℕ) → given_by_all (take i list) ++ given_by_all (drop i list) ≡ given_by_all list
entries_all list i = sym (given_append (take i list) (drop i list)) ∙ ap given_by_all (take-append-drop i list)

module _ {a b : Place} {skip mid : ℕ} (list : List StoredEntry) (i : ℕ) (d : StoredEntry) (less : i < length list) (one : AdvancesOver a b skip mid (given_by_all (take i list))) where
  pub passes_entry : {c : Place} {left : ℕ} → AdvancesOver b c mid left (given_by (get_or list i d)) → AdvancesOver a c skip left (given_by_all (take (i + 1) list))
  passes_entry two = passes_by (sym (entries_next list i d less)) (passes_then one two)

  pub fails_entry : {c : Place} {why : SessionError} → StopsOver b c (drop mid (given_by (get_or list i d))) why → StopsOver a c (drop skip (given_by_all list)) why
  fails_entry two =
      fails_by (ap (drop skip) (ap (λ (l : List Input). l ++ given_by_all (drop (i + 1) list)) (sym (entries_next list i d less)) ∙ entries_all list (i + 1)))
      (fails_within (given_by (get_or list i d)) (given_by_all (drop (i + 1) list)) one two)

-- ---- with the recording

pub read_fails : (why : RecordingFault) (broken : Bool) → broken ≡ false → IsReadCause why broken → why ≡ Device
read_fails Device broken unbroken cause = refl
read_fails Broken broken unbroken cause = cc
read_fails why broken unbroken cause = absurd cause

catch_up_among : (why : RecordError) (less all : ℕ) (now : DiskState) → less ≤ all → IsCatchUpStop why less now → IsCatchUpStop why all now
catch_up_among (Session why) less all now more stop = (stops_among why less all now more stop.0, stop.1)
catch_up_among why less all now more stop = stop

-- inputs that were read, of which one was refused, or a save
pub fails_giving : {a b : Place} {old new : DiskState} {E : Type 0} {faults_after : E → ℕ → ℕ} {given : List Input} {why : SessionError} (skip : ℕ) (recorded : List Input) → (old.honest → given ≡ drop skip recorded) → (old.honest → LooksOnly old new)
    → HasAnswered {T = Unit {0}} faults_after old new (Ok tt) → StopsOver a b given why → StopsOverRecorded a b old new skip recorded (Session why)
fails_giving {a} {b} {why = why} skip recorded same looks answered fails = record {
  stopped = λ honest rom from before played. stopped_by (ap (λ (l : List Input). before ++ l) (same honest)) (fails.no_further.stopped rom from before played);
  cause = λ honest. (subst (λ (l : List Input). IsStop why (all_of a + length l) b.disk) (same honest) fails.no_further.cause, fails.silent);
  kind = fails.silent;
  looks = looks;
  later = fails.no_further.later;
  save_calls = answered_error fails.no_further.calls (λ n. refl);
  recording_calls = answered_otherwise answered (λ n. refl);
}

-- one sector after the others
module _ {a b : Place} {old mid : DiskState} {skip there : ℕ} (number : ℕ) (one : AdvancesOverRecorded a b old mid skip there (inputs_up_to number old.sectors)) where
  mid_honest : old.honest → mid.honest
  mid_honest honest = (one.looks honest).honest

  abbrev sector : List Input
  sector = given_by_all (entries_at (number + 1) (sector_at mid.sectors (number + 1)))

  sector_is : old.honest → sector ≡ inputs_at (number + 1) old.sectors
  sector_is honest =
      given_inputs (entries_at (number + 1) (sector_at mid.sectors (number + 1))) (sector_entries (number + 1) (sector_at mid.sectors (number + 1)))
      ∙ ap (inputs_at (number + 1)) (one.looks honest).sectors

  up_to_here : old.honest → inputs_up_to number old.sectors ++ sector ≡ inputs_up_to (number + 1) old.sectors
  up_to_here honest = ap (λ (l : List Input). inputs_up_to number old.sectors ++ l) (sector_is honest) ∙ sym (one_more number old.sectors)

  pub passes_sector : {c : Place} {new : DiskState} {left : ℕ} → AdvancesOverRecorded b c mid new there left sector → AdvancesOverRecorded a c old new skip left (inputs_up_to (number + 1) old.sectors)
  passes_sector two = record {
    passed = one.passed ++ two.passed;
    passes = passes_then one.passes two.passes;
    passed_is = λ honest. (λ i. one.passed_is honest i ++ two.passed_is (mid_honest honest) i) ∙ up_to_here honest;
    looks = λ honest. looked_then (one.looks honest) (two.looks (mid_honest honest));
    calls = answered_both one.calls two.calls;
  }

  -- and before the rest
  module _ (used : ℕ) (less : number < used) (whole : old.honest → entries old.sectors ≡ entries_up_to used old.sectors) where
    pub fails_sector : {c : Place} {new : DiskState} {why : RecordError} → StopsOverRecorded b c mid new there sector why → StopsOverRecorded a c old new skip (recorded_in old) why
    fails_sector {c} {why = why} two =
        let rest = more_sectors used (number + 1) old.sectors (omega arith) in
        let done = drop skip one.passed in
        let more = drop there sector in
        let other = drop (skip - length (one.passed ++ sector)) rest.more in
        let all : old.honest → (done ++ more) ++ other ≡ drop skip (recorded_in old) = λ honest.
        ap (λ (l : List Input). l ++ other) (ap (λ (n : ℕ). done ++ drop n sector) one.passes.left_is ∙ sym (drop_both skip one.passed sector)) ∙ sym (drop_both skip (one.passed ++ sector) rest.more)
        ∙ ap (λ (l : List Input). drop skip (l ++ rest.more)) (ap (λ (l : List Input). l ++ sector) (one.passed_is honest) ∙ up_to_here honest)
        ∙ ap (drop skip) (sym rest.is ∙ sym (all_up_to used old.sectors (whole honest))) in
        record {
          stopped = λ honest rom from given played.
              let before = one.passes.goes.going rom from given played in
              stopped_by (append_assoc given (done ++ more) other ∙ ap (λ (l : List Input). given ++ l) (all honest))
              (stopped_more rom a.disk c.disk c.acknowledged from (given ++ (done ++ more)) other
              (stopped_by (append_assoc given done more)
              (stopped_then rom a.disk b.disk c.disk c.acknowledged from (given ++ done) more before.moments (two.stopped (mid_honest honest) rom from (given ++ done) before.played))));
          cause = λ honest.
              let size : all_of b + length more ≤ all_of a + length (drop skip (recorded_in old)) = omega (arith, one.passes.goes.all_is, ap length (all honest), length-append done more, length-append (done ++ more) other) in
              catch_up_among why (all_of b + length more) (all_of a + length (drop skip (recorded_in old))) c.disk size (two.cause (mid_honest honest));
          kind = two.kind;
          looks = λ honest. looked_then (one.looks honest) (two.looks (mid_honest honest));
          later = omega (arith, one.passes.goes.later, two.later);
          save_calls = answered_refused one.passes.goes.calls two.save_calls (λ n. refl);
          recording_calls = answered_refused one.calls two.recording_calls (λ n. refl);
        }

pub by_result : {T E : Type 0} (r : Result T E) (C : Result T E → Type 0) {P : T → Type 0} {Q : E → Type 0} → IfOk r P → IfErr r Q → ((x : T) → P x → C (Ok x)) → ((e : E) → Q e → C (Err e)) → C r
by_result (Ok x) C p q ok err = ok x p
by_result (Err e) C p q ok err = err e q
