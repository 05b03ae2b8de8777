-- A game that is taken up with its recording: both are in step then, and agree wherever it stops.
use Rattle.std.proofs.Common.{◌≡◌, ◌⊎◌, inl, inr, ⊎_elim, ℕ, ◌+◌, ◌≤◌, ◌<◌, List, [], length, take, drop, Some, refl, sym, ap, ◌∙◌, subst, arith, length-drop}
use Rattle.std.proofs.Math.Seq.{take-add}
use Rattle.std.proofs.lemmas.List.{take_all, drop_all, length-map, take-map}
use Rattle.std.specs.Option.{option_map}
use Rattle.sha2.specs.Sha256.{sha256}
use Rattle.machine.specs.Machine.{MachineState, start, after}
use Rattle.machine.specs.Machine.{Input}
use Rattle.sector_device.specs.DiskState.{DiskState, Settled}
use Rattle.sector_device.specs.Looking.{HasLooked, LooksOnly}
use Rattle.sector_device.proofs.Looking.{looked_then, looked_self, settled_looked, has_looked}
use Rattle.sector_device.specs.Runs.{HoldsSince}
use Rattle.log_format.specs.Content.{content, generation_in}
use Rattle.input_entries.specs.Inputs.{inputs}
use Rattle.input_entries.specs.declared.Entry.{Entry}
use Rattle.recording.specs.Calls.{IsOpenCause}
use Rattle.recording.specs.Recorded.{recorded, entries}
use Rattle.recording.specs.declared.fault.RecordingFault.{RecordingFault}
use Rattle.recording.specs.declared.fault.RecordingFault.TheVariants.{Memory as NoMemoryOfRecording, NoRecording, OtherCartridge}
use Rattle.session.specs.Stands.{IsAtRest, StandsAsBefore, Position, stands}
use Rattle.session.specs.Calls.{CanBeLookedAt}
use Rattle.session.specs.Found.{IsResumeCause, IsLookCause}
use Rattle.session.specs.Inputs.{input_of, inputs_of}
use Rattle.session.specs.declared.error.SessionError.{SessionError}
use Rattle.session.specs.declared.error.SessionError.TheVariants.{Memory, GenerationsUsedUp, Output}
use Rattle.snapshot.specs.Legal.{IsMachineOf}
use Rattle.session.proofs.Writes.{since_weaker}
use Rattle.session.proofs.Beginnings.{since_then}
use Rattle.session.proofs.StandsLaws.{after_append, after_none}
use Rattle.playing.specs.Played.{IsPlayed, Reaches, IsStop}
use Rattle.playing.proofs.PlayLaws.{begun_played}
use Rattle.replaying.specs.Agreeing.{IsRecorded, Agrees, AllAgree, recorded_inputs}
use Rattle.recorded_play.specs.Steps.{power_on, IsOfDevices}
use Rattle.recorded_play.specs.CatchingUp.{recorded_in}
use Rattle.recorded_play.specs.GoingOn.{LookAdvances, LookStops, IsLookStop, LookImage}
use Rattle.recorded_play.specs.Whole.{IsTakenUp, HasTakenUp, IsNotTakenUp, IsTakeUpCause, IsForeign, IsStopAtRecorded, IsBehindBy, CanGoOn, IsWhereMemoryLacks}
use Rattle.recorded_play.specs.declared.error.RecordError.{RecordError}
use Rattle.recorded_play.specs.declared.error.RecordError.TheVariants.{Session, Recording}
use Rattle.playing.proofs.Going.{IsNow}
use Rattle.recorded_play.proofs.Stepping.{entries_of, reached_agrees}
use Rattle.replaying.proofs.Looking.{looks_only}

-- a session at rest, whose machine is the one after these inputs from power-on
pub begun_from : (rom : List ℕ) (now : DiskState) (acknowledged : ℕ) (pending : List Entry) (machine : MachineState) (given : List Input) → now.honest → machine.processor.memory.banks.rom ≡ rom → pending ≡ []
    → IsAtRest rom now acknowledged [] machine → acknowledged ≡ length given → machine ≡ after (start rom) given → IsPlayed rom now acknowledged pending machine (power_on rom) given
begun_from rom now acknowledged pending machine given honest rom_is empty rests count_is machine_is =
    let begun = begun_played rom now acknowledged pending machine honest rom_is empty rests in
    let whole : take (length given) given ≡ given = take_all (length given) given (omega arith) in
    let here : after machine (take begun.saved []) ≡ after (start rom) (take (length given) given) = ap (after machine) (take_all {A = Input} begun.saved [] (omega arith)) ∙ after_none machine ∙ machine_is ∙ ap (after (start rom)) (sym whole) in
    record {
      honest = honest;
      rom_is = rom_is;
      saved = length given;
      within = omega arith;
      acknowledged_is = omega (arith, count_is);
      unsaved_is = omega (arith, ap length empty);
      pending_is = λ logged. ap inputs_of empty ∙ sym (drop_all (length given) given (omega arith));
      machine_is = machine_is;
      settled = begun.settled;
      stands_is = begun.stands_is ∙ (λ i. Some (record { count = acknowledged; machine = here i }));
    }

-- what is recorded leads to the machine of the SAVE
pub recorded_leads : (rom : List ℕ) (recording : List (List ℕ)) (at : Position) (played : List Input) → recorded_inputs rom recording ≡ Some played → IsRecorded rom recording at → at.machine ≡ after (start rom) (take at.count played)
recorded_leads rom recording at played holds is =
    let found = entries_of (recorded (sha256 rom) recording) played holds in
    let same : is.entries ≡ found.0 = cc (is.holds, found.1) in
    is.machine_is ∙ ap (λ (l : List Entry). after (start rom) (inputs_of (take at.count l))) same
    ∙ ap (after (start rom)) (sym (take-map input_of at.count found.0)) ∙ ap (λ (l : List Input). after (start rom) (take at.count l)) found.2

-- one image that stands for what another stands for
agree_one : (rom : List ℕ) (before s r there : List (List ℕ)) → stands rom (content s) ≡ stands rom (content before) → r ≡ there → Agrees rom before there → Agrees rom s r
agree_one rom before s r there same r_is agree = λ at stood. subst (λ (i : List (List ℕ)). IsRecorded rom i at) (sym r_is) (agree at (sym same ∙ stood))

-- one that reaches some of what is recorded, from a machine that it leads to
agree_reached : (rom : List ℕ) (at : Position) (played : List Input) (s r : List (List ℕ)) → at.count ≤ length played → at.machine ≡ after (start rom) (take at.count played) → recorded_inputs rom r ≡ Some played → Reaches rom at 0 (drop at.count played) s → Agrees rom s r
agree_reached rom at played s r enough machine_is holds reaches =
    let whole : take (length played) played ≡ played = take_all (length played) played (omega arith) in
    let within : at.count + reaches.count ≤ length played = omega (arith, reaches.within, length-drop at.count played, enough) in
    let count_is : at.count + reaches.count ≡ 0 + (at.count + reaches.count) = omega arith in
    let here : after at.machine (take reaches.count (drop at.count played)) ≡ after (start rom) (take (at.count + reaches.count) (take (length played) played)) =
    ap (λ (m : MachineState). after m (take reaches.count (drop at.count played))) machine_is
    ∙ after_append (start rom) (take at.count played) (take reaches.count (drop at.count played))
    ∙ ap (after (start rom)) (sym (take-add at.count reaches.count played))
    ∙ ap (λ (l : List Input). after (start rom) (take (at.count + reaches.count) l)) (sym whole) in
    reached_agrees rom played (length played) s r
    (record {
      count = at.count + reaches.count;
      at_least = omega arith;
      within = omega (arith, within, ap length whole);
      is = reaches.is ∙ (λ i. Some (record { count = count_is i; machine = here i }));
    })
    (record { count = length played; at_least = omega arith; within = omega arith; is = holds ∙ ap (λ (l : List Input). Some l) (sym whole) })

-- ---- from the look to the end

-- both were looked at: the SAVE stands for that, and the recording has so many inputs
pub record AreLookedAt (rom : List ℕ) (save looked recording opened : DiskState) (at : Position) (count : ℕ) : Type 0 where
  pub look : save.honest → HasLooked save looked
  pub stood : save.honest → stands rom (content save.sectors) ≡ Some at
  pub opens : recording.honest → HasLooked recording opened
  pub settled : recording.honest → Settled opened
  pub held : recording.honest → recorded (sha256 rom) recording.sectors ≡ Some (inputs (entries recording.sectors))
  pub counted : recording.honest → count ≡ length (inputs (entries recording.sectors))

module _ {rom : List ℕ} {save looked recording opened : DiskState} {at : Position} {count : ℕ} (both : AreLookedAt rom save looked recording opened at count) where
  recorded_here : recording.honest → recorded_in opened ≡ recorded_in recording
  recorded_here honest = ap (λ (s : List (List ℕ)). inputs_of (inputs (entries s))) (both.opens honest).sectors

  all_recorded : recording.honest → recorded_inputs rom recording.sectors ≡ Some (recorded_in recording)
  all_recorded honest = ap (option_map inputs_of) (both.held honest)

  size_recorded : recording.honest → count ≡ length (recorded_in recording)
  size_recorded honest = both.counted honest ∙ sym (length-map (inputs (entries recording.sectors)) input_of)

  -- fewer inputs than the SAVE
  pub is_behind : count < at.count → save.honest → recording.honest → IsBehindBy rom save.sectors recording.sectors count
  is_behind less honest recording_honest =
      record { at = at; stands_is = both.stood honest; played = recorded_in recording; recorded_is = all_recorded recording_honest; count_is = size_recorded recording_honest; fewer = less }

  module _ (enough : at.count ≤ count) where
    is_taken_up : (more : List Input) → (opened.honest → more ≡ drop at.count (recorded_in opened)) → save.honest → recording.honest → IsTakenUp rom save.sectors recording.sectors at more
    is_taken_up more more_is honest recording_honest = record {
      stands_is = both.stood honest;
      played = recorded_in recording;
      recorded_is = all_recorded recording_honest;
      enough = omega (arith, size_recorded recording_honest);
      more_is = more_is (both.opens recording_honest).honest ∙ ap (drop at.count) (recorded_here recording_honest);
    }

    as_before : (image : List (List ℕ)) → save.honest → StandsAsBefore rom looked image → StandsAsBefore rom save image
    as_before image honest s = record { before = s.before; stood = (both.look honest).images s.before s.stood; is = s.is }

    -- each image since is one of before, or stands for some of these
    images_since : {now : DiskState} {more : List Input} {P : List (List ℕ) → Type 0} → ((image : List (List ℕ)) → Reaches rom at 0 more image → P image) → save.honest → HoldsSince looked now (LookImage rom looked at more)
        → HoldsSince save now (λ image. StandsAsBefore rom save image ⊎ P image)
    images_since reached honest images =
        since_then (since_weaker (both.look honest).since (λ image stood. inl (record { before = image; stood = stood; is = refl })))
        (since_weaker images (λ image one. ⊎_elim (λ s. inl (as_before image honest s)) (λ r. inr (reached image r)) one))

    recording_looked : {now : DiskState} → IsNow recording → (opened.honest → LooksOnly opened now) → recording.honest → HasLooked recording now
    recording_looked only looks honest = has_looked only (looked_then (looks_only (both.opens honest)) (looks (both.opens honest).honest))

    pub taken_up : {now now_recording : DiskState} {acknowledged : ℕ} {machine : MachineState} → IsMachineOf rom at.machine → IsNow recording → LookAdvances rom looked now opened now_recording at acknowledged machine
        → HasTakenUp rom save now recording now_recording acknowledged machine
    taken_up of_rom only goes = record {
      at = at;
      of_rom = of_rom;
      stood = both.stood;
      more = goes.more;
      count_is = goes.count_is;
      machine_is = goes.machine_is;
      taken_up = is_taken_up goes.more goes.more_is;
      rests = λ honest. goes.rests (both.look honest).honest;
      images = λ honest. images_since (λ image r. record { from = at; stood = both.stood honest; reaches = r }) honest (goes.images (both.look honest).honest);
      looked = recording_looked only goes.looks;
      settled = λ honest. settled_looked (both.settled honest) (goes.looks (both.opens honest).honest);
    }

    -- why it was not
    stop_recorded : (why : SessionError) (now : DiskState) → recording.honest → IsStop why (at.count + length (drop at.count (recorded_in opened))) now → (why ≡ Output → ⊥) → IsStopAtRecorded rom why now recording
    stop_recorded why now honest stop silent =
        let size : at.count + length (drop at.count (recorded_in opened)) ≡ length (recorded_in recording) =
        omega (arith, length-drop at.count (recorded_in opened), ap length (recorded_here honest), size_recorded honest) in
        record { played = recorded_in recording; recorded_is = all_recorded honest; stop = subst (λ (n : ℕ). IsStop why n now) size stop; silent = silent }

    session_cause : (why : SessionError) (now : DiskState) → recording.honest → IsLookStop (Session why) (at.count + length (drop at.count (recorded_in opened))) now
        → IsResumeCause rom (generation_in save.sectors) (content save.sectors) why ⊎ IsStopAtRecorded rom why now recording
    session_cause Memory now honest cause = inl tt
    session_cause Output now honest cause = absurd (cause.1 refl)
    session_cause why now honest cause = inr (stop_recorded why now honest cause.0 cause.1)

    cause_is : {now now_recording : DiskState} (why : RecordError) → LookStops rom looked now opened now_recording at why
        → (save.honest → recording.honest → IsTakeUpCause why rom save now recording) × (IsForeign why → save.honest → recording.honest → HasLooked save now)
    cause_is {now} (Session why) stops = (λ honest recording_honest. session_cause why now recording_honest (stops.cause (both.look honest).honest (both.opens recording_honest).honest), λ foreign. absurd foreign)
    cause_is (Recording why) stops = (
      λ honest recording_honest. subst (λ (w : RecordingFault). IsOpenCause w (sha256 rom) recording) (sym (stops.cause (both.look honest).honest (both.opens recording_honest).honest)) tt,
      λ foreign honest recording_honest.
          let device = stops.cause (both.look honest).honest (both.opens recording_honest).honest in
          ⊎_elim (λ (none : why ≡ NoRecording). absurd (cc)) (λ (other : why ≡ OtherCartridge). absurd (cc)) foreign,
    )
    cause_is why stops =
        let none = λ (honest : save.honest) (recording_honest : recording.honest). stops.cause (both.look honest).honest (both.opens recording_honest).honest in
        (λ honest recording_honest. absurd (none honest recording_honest), λ foreign honest recording_honest. absurd (none honest recording_honest))

    can_go_on : CanGoOn rom save recording
    can_go_on honest recording_honest = (at, drop at.count (recorded_in opened), is_taken_up (drop at.count (recorded_in opened)) (λ h. refl) honest recording_honest)

    -- memory was refused behind both looks
    memory_lacks : {now now_recording : DiskState} (why : RecordError) → LookStops rom looked now opened now_recording at why → IsWhereMemoryLacks why rom save now recording now_recording
    memory_lacks (Session Memory) stops = inr (inr can_go_on)
    memory_lacks (Recording NoMemoryOfRecording) stops = λ honest recording_honest. let is = stops.cause (both.look honest).honest (both.opens recording_honest).honest in absurd (cc)
    memory_lacks why stops = tt

    pub not_taken_up : {now now_recording : DiskState} {why : RecordError} → IsNow recording → LookStops rom looked now opened now_recording at why → IsNotTakenUp rom save now recording now_recording why
    not_taken_up {why = why} only stops = record {
      cause = (cause_is why stops).0;
      kind = stops.kind;
      images = λ honest recording_honest.
          images_since (λ image r. record { at = at; more = drop at.count (recorded_in opened); taken_up = is_taken_up (drop at.count (recorded_in opened)) (λ h. refl) honest recording_honest; reaches = r }) honest
          (stops.images (both.look honest).honest (both.opens recording_honest).honest);
      looked = recording_looked only stops.looks;
      untouched = (cause_is why stops).1;
      memory = memory_lacks why stops;
    }

    -- whatever is left agrees, where both agreed
    pub agree_on : {now now_recording : DiskState} (more : List Input) → save.image save.sectors → recording.image recording.sectors → ((t : ℕ) (c : List (List ℕ)) → t ≤ now.moment → now.image c → now.since t c) → save.honest → recording.honest
        → AllAgree rom save recording → more ≡ drop at.count (recorded_in opened) → HoldsSince looked now (LookImage rom looked at more) → (opened.honest → LooksOnly opened now_recording) → AllAgree rom now now_recording
    agree_on more save_here recording_here counts honest recording_honest agree more_is since looks = λ s r is_save is_recording.
        let machine_is : at.machine ≡ after (start rom) (take at.count (recorded_in recording)) =
        recorded_leads rom recording.sectors at (recorded_in recording) (all_recorded recording_honest) (agree save.sectors recording.sectors save_here recording_here at (both.stood honest)) in
        let only = looks (both.opens recording_honest).honest in
        let r_is : r ≡ recording.sectors = settled_looked (both.settled recording_honest) only r is_recording ∙ only.sectors ∙ (both.opens recording_honest).sectors in
        let here : more ≡ drop at.count (recorded_in recording) = more_is ∙ ap (drop at.count) (recorded_here recording_honest) in
        ⊎_elim
        (λ before. let b = as_before s honest before in agree_one rom b.before s r recording.sectors b.is r_is (agree b.before recording.sectors b.stood recording_here))
        (λ reaches.
        subst (λ (i : List (List ℕ)). Agrees rom s i) (sym r_is)
        (agree_reached rom at (recorded_in recording) s recording.sectors (omega (arith, size_recorded recording_honest)) machine_is (all_recorded recording_honest) (subst (λ (l : List Input). Reaches rom at 0 l s) here reaches)))
        (since.each s (counts looked.moment s since.moments.later is_save))

-- ---- refused before anything was written

pub look_refused : (rom : List ℕ) (save now recording : DiskState) (why : SessionError) → (save.honest → IsLookCause rom (content save.sectors) why) → save.honest → recording.honest → IsTakeUpCause (Session why) rom save now recording
look_refused rom save now recording GenerationsUsedUp cause honest recording_honest = absurd (cause honest)
look_refused rom save now recording why cause honest recording_honest = inl (cause honest)

pub refused_looking : {rom : List ℕ} {save now recording opened : DiskState} {why : RecordError} → (save.honest → recording.honest → IsTakeUpCause why rom save now recording) → IsOfDevices why → (save.honest → HasLooked save now) → (recording.honest → HasLooked recording opened)
    → IsWhereMemoryLacks why rom save now recording opened → IsNotTakenUp rom save now recording opened why
refused_looking cause kind look opens memory = record {
  cause = cause;
  kind = kind;
  images = λ honest recording_honest. since_weaker (look honest).since (λ image stood. inl (record { before = image; stood = stood; is = refl }));
  looked = opens;
  untouched = λ foreign honest recording_honest. look honest;
  memory = memory;
}

-- a look for which there was no memory
pub look_lacks : {D : Type 0} (disk : D → DiskState) {rom : List ℕ} {old now : D} (recording : DiskState) (why : SessionError) → (why ≡ Memory → (now ≡ old) ⊎ ((disk old).honest → CanBeLookedAt rom (disk old))) → IsWhereMemoryLacks (Session why) rom (disk old) (disk now) recording recording
look_lacks disk recording Memory memory =
    ⊎_elim (λ same. inl ((ap (λ d. (disk d).sectors) same, ap (λ d. (disk d).moment) same, ap (λ d. (disk d).faults) same), (refl, refl, refl))) (λ can. inr (inl (can, (refl, refl, refl)))) (memory refl)
look_lacks disk recording why memory = tt

-- a recording for which there was none
pub open_lacks : {D : Type 0} (disk : D → DiskState) (rom : List ℕ) (save looked : DiskState) {at : Position} {old now : D} (why : RecordingFault) → (why ≡ NoMemoryOfRecording → now ≡ old) → (save.honest → stands rom (content save.sectors) ≡ Some at)
    → IsWhereMemoryLacks (Recording why) rom save looked (disk old) (disk now)
open_lacks disk rom save looked {at = at} NoMemoryOfRecording memory stood =
    let same = memory refl in
    λ save_honest honest. (λ h. record { from = at; stood = stood h }, (ap (λ d. (disk d).sectors) same, ap (λ d. (disk d).moment) same, ap (λ d. (disk d).faults) same))
open_lacks disk rom save looked why memory stood = tt

pub agree_looking : (rom : List ℕ) {save now recording opened : DiskState} → (save.honest → HasLooked save now) → (recording.honest → HasLooked recording opened) → save.honest → recording.honest → AllAgree rom save recording → AllAgree rom now opened
agree_looking rom look opens honest recording_honest agree =
    λ s r is_save is_recording. agree s r ((look honest).images s is_save) ((opens recording_honest).images r is_recording)

pub looked_same : {now : DiskState} → IsNow now → now.honest → HasLooked now now
looked_same {now} only honest = has_looked only (looked_self now honest)
