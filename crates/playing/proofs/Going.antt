-- How a session goes, one step after the other.
use Rattle.std.proofs.Common.{◌≡◌, ℕ, ◌+◌, ◌-◌, ◌^◌, ◌≤◌, ◌<◌, List, [], ◌∷◌, ◌++◌, length, Bool, false, Ok, Err, refl, sym, ap, ◌∙◌, subst, arith, append_assoc, append-nil, length-append}
use Rattle.machine.specs.Machine.{MachineState, Input, applied, after}
use Rattle.sector_device.specs.DiskState.{DiskState, HasAnswered}
use Rattle.sector_device.specs.Runs.{HoldsSince}
use Rattle.sector_device.specs.declared.device.SectorDevice.{Ghosts as Disks}
use Rattle.log_format.specs.Content.{content, generation_in}
use Rattle.session.specs.Accessors.{device_of}
use Rattle.session.specs.Calls.{IsSaveCause, faults_after, input_answer}
use Rattle.session.specs.Stands.{IsAtRest, stands, StandsBetween}
use Rattle.session.specs.Inputs.{can_be_logged, inputs_of}
use Rattle.session.specs.declared.error.SessionError.{SessionError}
use Rattle.session.specs.declared.error.SessionError.TheVariants.{GenerationsUsedUp, Output}
use Rattle.session.specs.declared.session.Session.{Session}
use Rattle.session.proofs.Answering.{answered_nothing, answered_refusal, answered_value, answered_error, answered_both, answered_refused}
use Rattle.session.proofs.StandsLaws.{after_append, after_none, after_one}
use Rattle.playing.specs.Going.{Place, all_of, place, SaveAdvances, SaveStops}
use Rattle.playing.specs.Making.{Advances, Stops}
use Rattle.playing.specs.Making.Advances.{stays, by_input, by_save}
use Rattle.playing.specs.Making.Stops.{at_input, at_save, at_line, past_input, past_save}
use Rattle.playing.specs.Played.{Advanced, Stopped}
use Rattle.playing.specs.declared.playable.Playable.{Ghosts}
use Rattle.playing.proofs.PlayLaws.{IsOneMore, going_by, going_input, going_nowhere, going_saved, going_then, stopped_by, stopped_failed, stopped_here, stopped_more, stopped_then}
use Rattle.playing.proofs.Stops.{full_stops, input_refused, save_stops, stops_among}

-- no call of a device that is at this moment
abbrev pub IsNow : DiskState → Type 0
IsNow now = (image : List (List ℕ)) → now.since now.moment image → now.image image

-- ---- where a session stays

pub goes_nowhere : (a : Place) → IsNow a.disk → SaveAdvances a a []
goes_nowhere a only = record {
  going = λ rom from given played. going_nowhere rom a.disk a.acknowledged a.pending a.machine from given played only;
  machine_is = sym (after_none a.machine);
  all_is = omega arith;
  later = omega arith;
  calls = answered_nothing;
  rom = refl;
}

-- a line that could not be written
pub unwritten : (a : Place) (more : List Input) → IsNow a.disk → SaveStops a a more Output
unwritten a more only = record {
  stopped = λ rom from given played.
      stopped_more rom a.disk a.disk a.acknowledged from given more (stopped_here rom a.disk a.acknowledged a.pending a.machine from given played only);
  cause = tt;
  later = omega arith;
  calls = answered_refusal (λ n. refl);
  rom = refl;
}

-- ---- one behind the other

pub goes_then : (a b c : Place) (first second : List Input) → SaveAdvances a b first → SaveAdvances b c second → SaveAdvances a c (first ++ second)
goes_then a b c first second one two = record {
  going = λ rom from given played.
      let before = one.going rom from given played in
      going_by (append_assoc given first second)
      (going_then rom a.disk b.disk c.disk c.acknowledged c.pending c.machine from (given ++ first) second before.moments (two.going rom from (given ++ first) before.played));
  machine_is = two.machine_is ∙ ap (λ (m : MachineState). after m second) one.machine_is ∙ after_append a.machine first second;
  all_is = omega (arith, two.all_is, one.all_is, length-append first second);
  later = omega (arith, one.later, two.later);
  calls = answered_both one.calls two.calls;
  rom = two.rom ∙ one.rom;
}

pub no_further_then : (a b c : Place) (first second : List Input) (why : SessionError) → SaveAdvances a b first → SaveStops b c second why → SaveStops a c (first ++ second) why
no_further_then a b c first second why one two =
    let less : all_of b + length second ≤ all_of a + length (first ++ second) = omega (arith, one.all_is, length-append first second) in
    record {
      stopped = λ rom from given played.
          let before = one.going rom from given played in
          stopped_by (append_assoc given first second)
          (stopped_then rom a.disk b.disk c.disk c.acknowledged from (given ++ first) second before.moments (two.stopped rom from (given ++ first) before.played));
      cause = stops_among why (all_of b + length second) (all_of a + length (first ++ second)) c.disk less two.cause;
      later = omega (arith, one.later, two.later);
      calls = answered_refused one.calls two.calls (λ n. refl);
      rom = two.rom ∙ one.rom;
    }

-- before more
pub no_further_more : (a b : Place) (first second : List Input) (why : SessionError) → SaveStops a b first why → SaveStops a b (first ++ second) why
no_further_more a b first second why stop =
    let less : all_of a + length first ≤ all_of a + length (first ++ second) = omega (arith, length-append first second) in
    record {
      stopped = λ rom from given played.
          stopped_by (append_assoc given first second) (stopped_more rom a.disk b.disk b.acknowledged from (given ++ first) second (stop.stopped rom from given played));
      cause = stops_among why (all_of a + length first) (all_of a + length (first ++ second)) b.disk less stop.cause;
      later = stop.later;
      calls = stop.calls;
      rom = stop.rom;
    }

-- ---- a save

abbrev pub rom_at : Place → List ℕ
rom_at a = a.machine.processor.memory.banks.rom

module _
    (a b : Place)
    (held : a.disk.honest → HoldsSince a.disk b.disk (StandsBetween (can_be_logged a.pending) (rom_at a) (stands (rom_at a) (content a.disk.sectors)) (inputs_of a.pending) (record { count = all_of a; machine = a.machine }))) where
  pub save_goes : (all : ℕ) → HasAnswered faults_after a.disk b.disk (Ok all) → all ≡ all_of a → b.acknowledged ≡ all → b.pending ≡ [] → b.machine ≡ a.machine
      → (a.disk.honest → IsAtRest (rom_at a) b.disk all [] a.machine) → SaveAdvances a b []
  save_goes all answered all_is saved none same rests = record {
    going = λ rom from given played.
        going_by (sym (append-nil given))
        (going_saved rom a.disk a.acknowledged a.pending a.machine from given played (rom_at a) refl b.disk all b.acknowledged b.pending b.machine
        (answered.honest.1 played.honest) all_is saved none same (rests played.honest) (held played.honest));
    machine_is = same ∙ sym (after_none a.machine);
    all_is = omega (arith, all_is, saved, ap length none);
    later = omega (arith, all_is, saved);
    calls = answered_value answered;
    rom = ap (λ (m : MachineState). m.processor.memory.banks.rom) same;
  }

  pub save_goes_no_further : (why : SessionError) (broken fits : Bool) (generation : ℕ) → broken ≡ false → HasAnswered {T = ℕ} faults_after a.disk b.disk (Err why) → IsSaveCause why broken fits generation
      → (why ≡ GenerationsUsedUp → b.disk.honest → generation_in b.disk.sectors ≡ 2 ^ 64 - 1) → b.acknowledged ≡ a.acknowledged → rom_at b ≡ rom_at a
      → ((t : ℕ) (c : List (List ℕ)) → t ≤ b.disk.moment → b.disk.image c → b.disk.since t c) → SaveStops a b [] why
  save_goes_no_further why broken fits generation whole answered cause worn saved rom counts = record {
    stopped = λ rom from given played.
        stopped_by (sym (append-nil given))
        (stopped_failed rom a.disk a.acknowledged a.pending a.machine from given played (rom_at a) refl b.disk b.acknowledged (answered.honest.1 played.honest) saved counts (held played.honest));
    cause = save_stops why broken fits generation (all_of a + 0) b.disk whole cause worn;
    later = omega (arith, saved);
    calls = answered_error answered (λ n. refl);
    rom = rom;
  }

-- ---- an input

module _ (a b : Place) (input : Input) (disk_is : b.disk ≡ a.disk) (count_is : b.acknowledged ≡ a.acknowledged) (rom_is : rom_at b ≡ rom_at a) (only : IsNow a.disk) where
  later : a.acknowledged ≤ b.acknowledged
  later = omega (arith, count_is)

  pub input_goes : IsOneMore a.pending b.pending input → b.machine ≡ applied input a.machine → SaveAdvances a b (input ∷ [])
  input_goes one machine_is = record {
    going = λ rom from given played.
        subst (λ (d : DiskState). Advanced rom a.disk d b.acknowledged b.pending b.machine from (given ++ input ∷ [])) (sym disk_is)
        (subst (λ (n : ℕ). Advanced rom a.disk a.disk n b.pending b.machine from (given ++ input ∷ [])) (sym count_is)
        (going_input rom a.disk a.acknowledged a.pending b.pending a.machine b.machine from given input played one machine_is rom_is only));
    machine_is = machine_is ∙ sym (after_one a.machine input);
    all_is = omega (arith, one.size, count_is);
    later = later;
    calls = subst (λ (d : DiskState). HasAnswered {T = Unit {0}} faults_after a.disk d (Ok tt)) (sym disk_is) answered_nothing;
    rom = rom_is;
  }

  pub input_goes_no_further : (why : SessionError) (broken : Bool) → broken ≡ false → length a.pending < 3200 → Err why ≡ input_answer broken (length a.pending) (all_of a) → SaveStops a b (input ∷ []) why
  input_goes_no_further why broken whole few answer =
      let full = input_refused why broken (length a.pending) (all_of a) whole few answer in
      record {
        stopped = λ rom from given played.
            subst (λ (d : DiskState). Stopped rom a.disk d b.acknowledged from (given ++ input ∷ [])) (sym disk_is)
            (subst (λ (n : ℕ). Stopped rom a.disk a.disk n from (given ++ input ∷ [])) (sym count_is)
            (stopped_more rom a.disk a.disk a.acknowledged from given (input ∷ []) (stopped_here rom a.disk a.acknowledged a.pending a.machine from given played only)));
        cause = full_stops why (all_of a + 1) b.disk full.0 (omega (arith, full.1));
        later = later;
        calls =
            subst (λ (d : DiskState). HasAnswered {T = Unit {0}} faults_after a.disk d (Err why)) (sym disk_is)
            (answered_refusal (λ n. ap (λ (w : SessionError). faults_after w n) full.0));
        rom = rom_is;
      }

-- ---- all steps of a session

module _ {D : Type 0} {disk : Disks D} {game : Ghosts (Session D disk) SessionError} (only : (d : D) (image : List (List ℕ)) → (disk.disk d).since (disk.disk d).moment image → (disk.disk d).image image)
    (gives : (a b : Session D disk) (input : Input) → game.gives a b input → SaveAdvances (place a) (place b) (input ∷ [])) (saves : (a b : Session D disk) → game.saves a b → SaveAdvances (place a) (place b) []) where
  pub goes_all : (a b : Session D disk) (inputs : List Input) → Advances game a b inputs → SaveAdvances (place a) (place b) inputs
  goes_all a b inputs (stays s) = goes_nowhere (place a) (only (device_of a))
  goes_all a c inputs (by_input {b = b} {input = input} {more = more} one rest) = goes_then (place a) (place b) (place c) (input ∷ []) more (gives a b input one.gives) (goes_all b c more rest)
  goes_all a c inputs (by_save {b = b} {more = more} one rest) = goes_then (place a) (place b) (place c) [] more (saves a b one.saves) (goes_all b c more rest)

  module _ (refuses : (a b : Session D disk) (input : Input) (why : SessionError) → game.refuses a b input why → SaveStops (place a) (place b) (input ∷ []) why)
      (fails : (a b : Session D disk) (why : SessionError) → game.fails a b why → SaveStops (place a) (place b) [] why) (unwritten_is : game.unwritten ≡ Output) where
    pub no_further_at_all : (a b : Session D disk) (inputs : List Input) (why : SessionError) → Stops game a b inputs why → SaveStops (place a) (place b) inputs why
    no_further_at_all a b inputs why (at_input {input = input} {more = more} refused same) = no_further_more (place a) (place b) (input ∷ []) more why (refuses a b input why refused)
    no_further_at_all a b inputs why (at_save failed same) = no_further_more (place a) (place b) [] inputs why (fails a b why failed)
    no_further_at_all a b inputs why (at_line s more) = subst (λ (w : SessionError). SaveStops (place a) (place a) inputs w) (sym unwritten_is) (unwritten (place a) inputs (only (device_of a)))
    no_further_at_all a c inputs why (past_input {b = b} {input = input} {more = more} one rest) =
        no_further_then (place a) (place b) (place c) (input ∷ []) more why (gives a b input one.gives) (no_further_at_all b c more why rest)
    no_further_at_all a c inputs why (past_save {b = b} one rest) = no_further_then (place a) (place b) (place c) [] inputs why (saves a b one.saves) (no_further_at_all b c inputs why rest)

-- none is unsaved
pub none_left : {A : Type 0} (list : List A) → length list ≡ 0 → list ≡ []
none_left [] is = refl
none_left (one ∷ list) is = cc
