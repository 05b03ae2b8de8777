-- A whole recorded play: from a game that is taken up to what is left.
use Rattle.std.proofs.Common.{◌≡◌, inl, inr, true, false, true≢false, refl, ℕ, ◌+◌, ◌-◌, List, [], ◌++◌, length, take, drop, Option, Some, sym, ap, ◌∙◌, subst, arith, length-append, length-drop}
use Rattle.std.proofs.Math.Seq.{take-append-add}
use Rattle.std.proofs.lemmas.List.{take_all, drop_all, take-append-drop}
use Rattle.std.specs.Io.KnownBytes.{Appends}
use Rattle.machine.specs.Machine.{MachineState, start, after}
use Rattle.machine.specs.Machine.{Input}
use Rattle.sector_device.specs.DiskState.{DiskState}
use Rattle.sector_device.specs.Runs.{HoldsSince}
use Rattle.session.specs.Stands.{IsAtRest, Position, behind}
use Rattle.session.specs.Inputs.{inputs_of}
use Rattle.session.proofs.StandsLaws.{after_append}
use Rattle.session.proofs.Writes.{since_weaker}
use Rattle.session.proofs.Beginnings.{since_then}
use Rattle.playing.specs.Played.{PlayImage, Reaches}
use Rattle.playing.specs.Report.{HasTold}
use Rattle.playing.specs.Lines.{Line, texts}
use Rattle.playing.proofs.Going.{IsNow, none_left}
use Rattle.playing.proofs.PlayLaws.{begun_played, all_saved, reaches_more, reaches_none}
use Rattle.playing.proofs.Telling.{told_by}
use Rattle.input_lines.specs.Given.{Given, HasReadGiven}
use Rattle.machine_lines.specs.KeptStates.{KeptMachine}
use Rattle.streaming.specs.Orders.{Deed, asked, order_of, needs_states}
use Rattle.streaming.specs.Reading.{Asks, AsksUpTo, ReadsTo}
use Rattle.streaming.specs.declared.order.Order.{Order}
use Rattle.streaming.specs.declared.obeying.End.TheVariants.{Damaged, OtherCartridge, NoMemory}
use Rattle.streaming.proofs.OrderLines.{needs_are}
use Rattle.streaming.specs.Answers.{inputs_of_deeds, stream_lines}
use Rattle.playing.specs.Going.{all_of, IsPlayedAt}
use Rattle.streaming.specs.declared.obeying.End.{End}
use Rattle.streaming.proofs.Wholes.{stream_at, lines_resumed}
use Rattle.replaying.specs.Agreeing.{AllAgree, recorded_inputs}
use Rattle.recorded_play.specs.Steps.{Game, HoldsFirst, HoldsSaved, IsInStep, BothAdvance, BothStop, IsRecordStop, told_as}
use Rattle.recorded_play.specs.Whole.{IsTakenUp, HoldsAll, HasTakenUp, HasRecorded, HasStopped, IsEndCause}
use Rattle.recorded_play.specs.declared.error.RecordError.{RecordError}
use Rattle.recorded_play.specs.declared.error.RecordError.TheVariants.{Session, Recording}
use Rattle.recorded_play.proofs.Stepping.{behind_after, behind_agree}
use Rattle.recorded_play.proofs.TakenUp.{begun_from, recorded_leads}

-- a game that was taken up with its recording
pub record IsUp (rom : List ℕ) (save recording : DiskState) (a : Game) : Type 0 where
  pub none : a.save.pending ≡ []
  pub rom_is : a.save.machine.processor.memory.banks.rom ≡ rom
  pub honest : save.honest → a.save.disk.honest
  pub taken : HasTakenUp rom save a.save.disk recording a.recording a.save.acknowledged a.save.machine
  pub save_here : save.honest → save.image save.sectors
  pub recording_here : recording.honest → recording.image recording.sectors

module _ {rom : List ℕ} {save recording : DiskState} {a : Game} (up : IsUp rom save recording a) where
  abbrev at : Position
  at = up.taken.at

  abbrev caught : List Input
  caught = up.taken.more

  abbrev from : Position
  from = record { count = a.save.acknowledged; machine = a.save.machine }

  from_is : from ≡ behind at caught
  from_is = λ i. record { count = up.taken.count_is i; machine = up.taken.machine_is i }

  begun : save.honest → IsPlayedAt rom a.save from []
  begun honest = begun_played rom a.save.disk a.save.acknowledged a.save.pending a.save.machine (up.honest honest) up.rom_is up.none (up.taken.rests honest)

  all_from : all_of a.save ≡ from.count
  all_from = omega (arith, ap length up.none)

  lines_from : (deeds : List Deed) → stream_at a.save deeds ≡ stream_lines (behind at caught) deeds
  lines_from deeds = lines_resumed a.save up.none deeds ∙ ap (λ (p : Position). stream_lines p deeds) from_is

  -- an image that stands for some inputs from there stands for some more from where the SAVE was
  further_back : (least : ℕ) (given : List Input) (image : List (List ℕ)) → Reaches rom from least given image → Reaches rom at (length caught + least) (caught ++ given) image
  further_back least given image r =
      let count_is : from.count + r.count ≡ at.count + (length caught + r.count) = omega (arith, up.taken.count_is) in
      let machine_is : after from.machine (take r.count given) ≡ after at.machine (take (length caught + r.count) (caught ++ given)) =
      ap (λ (m : MachineState). after m (take r.count given)) up.taken.machine_is ∙ after_append at.machine caught (take r.count given)
      ∙ ap (after at.machine) (sym (take-append-add caught given r.count)) in
      record {
        count = length caught + r.count;
        at_least = omega (arith, r.at_least);
        within = omega (arith, r.within, length-append caught given);
        is = r.is ∙ (λ i. Some (record { count = count_is i; machine = machine_is i }));
      }

  image_more : (given : List Input) (image : List (List ℕ)) → PlayImage rom save caught image → PlayImage rom save (caught ++ given) image
  image_more given image (inl before) = inl before
  image_more given image (inr r) = inr (record { from = r.from; stood = r.stood; reaches = reaches_more rom r.from 0 caught given image r.reaches })

  images_since : {now : DiskState} (given : List Input) → save.honest → HoldsSince a.save.disk now (Reaches rom from 0 given) → HoldsSince save now (PlayImage rom save (caught ++ given))
  images_since given honest held =
      since_then (since_weaker (up.taken.images honest) (image_more given))
      (since_weaker held (λ image r. inr (record {
        from = at;
        stood = up.taken.stood honest;
        reaches = reaches_none rom at (length caught + 0) (caught ++ given) image (further_back 0 given image r);
      })))

  module _ (honest : save.honest) (recording_honest : recording.honest) where
    abbrev taken : IsTakenUp rom save.sectors recording.sectors at caught
    taken = up.taken.taken_up honest recording_honest

    count_here : a.save.acknowledged ≡ length taken.played
    count_here = omega (arith, up.taken.count_is, ap length taken.more_is, length-drop at.count taken.played, taken.enough)

    holds : HoldsSaved rom a.recording a.save.acknowledged a.save.pending taken.played
    holds = record {
      honest = (up.taken.looked recording_honest).honest;
      settled = up.taken.settled recording_honest;
      within = omega (arith, count_here);
      pending_is = ap inputs_of up.none ∙ sym (drop_all a.save.acknowledged taken.played (omega (arith, count_here)));
      recorded_is = ap (recorded_inputs rom) (up.taken.looked recording_honest).sectors ∙ taken.recorded_is
          ∙ ap (λ (l : List Input). Some l) (sym (take_all a.save.acknowledged taken.played (omega (arith, count_here))));
    }

    -- what is recorded at an end
    ended_holds : {b : Game} {more : List Input} → BothAdvance a b more → b.save.pending ≡ [] → HoldsAll rom b.recording (taken.played ++ more)
    ended_holds {b} {more} comes saved =
        let step = (comes.records rom taken.played holds).holds in
        let none_left : length (drop b.save.acknowledged (taken.played ++ more)) ≡ 0 = ap length (sym step.pending_is ∙ ap inputs_of saved) in
        let all : b.save.acknowledged ≡ length (taken.played ++ more) = omega (arith, none_left, length-drop b.save.acknowledged (taken.played ++ more), step.within) in
        record {
          settled = step.settled;
          recorded_is = step.recorded_is ∙ ap (λ (l : List Input). Some l) (take_all b.save.acknowledged (taken.played ++ more) (omega (arith, all)));
        }

    -- both are in step where they agreed
    module _ (agree : AllAgree rom save recording) where
      machine_here : a.save.machine ≡ after (start rom) taken.played
      machine_here =
          up.taken.machine_is ∙ ap (after at.machine) taken.more_is
          ∙ ap (λ (m : MachineState). after m (drop at.count taken.played))
          (recorded_leads rom recording.sectors at taken.played taken.recorded_is (agree save.sectors recording.sectors (up.save_here honest) (up.recording_here recording_honest) at taken.stands_is))
          ∙ after_append (start rom) (take at.count taken.played) (drop at.count taken.played)
          ∙ ap (after (start rom)) (take-append-drop at.count taken.played)

      in_step : IsInStep rom a taken.played
      in_step = record {
        played = begun_from rom a.save.disk a.save.acknowledged a.save.pending a.save.machine taken.played (up.honest honest) up.rom_is up.none (up.taken.rests honest) count_here machine_here;
        holds = holds;
      }

      -- at an end
      pub ended_agree : {b : Game} {more : List Input} → BothAdvance a b more → IsNow b.recording → AllAgree rom b.save.disk b.recording
      ended_agree {b} {more} comes only = behind_agree rom a b (taken.played ++ more) (behind_after rom a b taken.played more comes in_step only)

      -- where it stopped
      pub stopped_agree : {b : Game} {more : List Input} {why : RecordError} → BothStop a b more why → AllAgree rom b.save.disk b.recording
      stopped_agree {b} {more} halts = behind_agree rom a b (taken.played ++ more) (halts.behind rom taken.played in_step)

      stopped_holds : {b : Game} {more : List Input} {why : RecordError} → BothStop a b more why → (image : List (List ℕ)) → b.recording.image image → HoldsFirst rom b.save.acknowledged (taken.played ++ more) image
      stopped_holds halts image here =
          let left = halts.behind rom taken.played in_step in
          let held = left.recordings image here in
          record { count = held.count; at_least = omega (arith, left.least, held.at_least); within = held.within; is = held.is }

  -- at an end the SAVE is at rest where the session is
  pub rests_at : {b : Game} (given : List Input) → BothAdvance a b given → length b.save.pending ≡ 0 → save.honest → IsAtRest rom b.save.disk b.save.acknowledged [] b.save.machine
  rests_at {b} given comes unsaved honest =
      let saved = none_left b.save.pending unsaved in
      let played = (comes.going rom from [] (begun honest)).played in
      let count_is : from.count + length given ≡ b.save.acknowledged = omega (arith, played.acknowledged_is, played.unsaved_is, unsaved) in
      subst (λ (m : MachineState). IsAtRest rom b.save.disk b.save.acknowledged [] m) (sym played.machine_is)
      (subst (λ (n : ℕ). IsAtRest rom b.save.disk n [] (after from.machine given)) count_is (all_saved rom b.save.disk b.save.acknowledged b.save.pending b.save.machine from given played saved))

  -- ---- with the lines

  module _ {b : Game} {before_in since_in before since : Option (List ℕ)} {own : List ℕ} {lines : List Given} (deeds : List Deed) (own_is : own ≡ rom) where
    -- to an end
    pub recorded_to : {kept : List KeptMachine} {found end : End} → BothAdvance a b (inputs_of_deeds deeds) → length b.save.pending ≡ 0 → Appends before since (texts (stream_at a.save deeds)) → Asks false own a.save.machine lines deeds kept → found ≡ end → ReadsTo false own kept found lines before_in since_in
        → HasRecorded rom save b.save.disk recording b.recording end before_in since_in before since
    recorded_to {kept} {found} comes unsaved answered asks end_is read =
        let given = inputs_of_deeds deeds in
        let saved = none_left b.save.pending unsaved in
        record {
          lines = lines;
          deeds = deeds;
          kept = kept;
          asks = subst (λ (m : MachineState). Asks false rom m lines deeds kept) up.taken.machine_is (subst (λ (r : List ℕ). Asks false r a.save.machine lines deeds kept) own_is asks);
          read = subst (λ (e : End). ReadsTo false rom kept e lines before_in since_in) end_is (subst (λ (r : List ℕ). ReadsTo false r kept found lines before_in since_in) own_is read);
          at = at;
          of_rom = up.taken.of_rom;
          stood = up.taken.stood;
          more = caught;
          taken_up = up.taken.taken_up;
          answered = subst (λ (l : List Line). Appends before since (texts l)) (lines_from deeds) answered;
          rests = λ honest.
              let rests = all_saved rom b.save.disk b.save.acknowledged b.save.pending b.save.machine from given (comes.going rom from [] (begun honest)).played saved in
              let count_is : from.count + length given ≡ at.count + length (caught ++ given) = omega (arith, up.taken.count_is, length-append caught given) in
              let machine_is : after from.machine given ≡ after at.machine (caught ++ given) = ap (λ (m : MachineState). after m given) up.taken.machine_is ∙ after_append at.machine caught given in
              subst (λ (m : MachineState). IsAtRest rom b.save.disk (at.count + length (caught ++ given)) [] m) machine_is
              (subst (λ (n : ℕ). IsAtRest rom b.save.disk n [] (after from.machine given)) count_is rests);
          images = λ honest. images_since given honest (comes.going rom from [] (begun honest)).moments;
          recorded = λ honest recording_honest. ended_holds honest recording_honest comes saved;
        }

    -- stopped
    pub stopped_record : {why : RecordError} (unread : List ℕ) → BothStop a b (inputs_of_deeds deeds) why → HasTold (told_as why) b.save.acknowledged (stream_at a.save deeds) before since → AsksUpTo false own a.save.machine lines deeds → HasReadGiven (asked false) lines unread before_in since_in
        → HasStopped rom save b.save.disk recording b.recording why before_in since_in before since
    stopped_record {why} unread halts told asks read =
        let given = inputs_of_deeds deeds in
        let least : ℕ = b.save.acknowledged - a.save.acknowledged in
        let saved_is : b.save.acknowledged ≡ at.count + length caught + least = omega (arith, halts.later, up.taken.count_is) in
        let all_is : all_of a.save + length given ≡ at.count + length caught + length given = omega (arith, all_from, up.taken.count_is) in
        record {
          lines = lines;
          deeds = deeds;
          asks = subst (λ (m : MachineState). AsksUpTo false rom m lines deeds) up.taken.machine_is (subst (λ (r : List ℕ). AsksUpTo false r a.save.machine lines deeds) own_is asks);
          unread = unread;
          read = read;
          at = at;
          of_rom = up.taken.of_rom;
          stood = up.taken.stood;
          more = caught;
          taken_up = up.taken.taken_up;
          cause = subst (λ (n : ℕ). IsRecordStop why n b.save.disk) all_is halts.cause;
          full = λ is honest recording_honest. halts.full is rom (taken honest recording_honest).played (holds honest recording_honest);
          least = least;
          told = told_by (lines_from deeds) (subst (λ (n : ℕ). HasTold (told_as why) n (stream_at a.save deeds) before since) saved_is told);
          images = λ honest. images_since given honest (halts.stopped rom from [] (begun honest)).moments;
          left = λ honest image here.
              let stopped = halts.stopped rom from [] (begun honest) in
              let same : stopped.least ≡ least = omega (arith, stopped.acknowledged_is, saved_is, up.taken.count_is) in
              subst (λ (n : ℕ). Reaches rom at (length caught + n) (caught ++ given) image) same (further_back stopped.least given image (stopped.images image here));
          recorded = λ honest recording_honest agree image here.
              subst (λ (n : ℕ). HoldsFirst rom n ((taken honest recording_honest).played ++ given) image) saved_is (stopped_holds honest recording_honest agree halts image here);
        }

-- as the refusal of a play
pub as_refusal : (why : RecordError) {rom : List ℕ} {save now recording now_recording : DiskState} {before_in since_in before since : Option (List ℕ)} (all : ℕ) → IsRecordStop why all now
    → HasStopped rom save now recording now_recording why before_in since_in before since → IsEndCause why rom save now recording now_recording before_in since_in before since
as_refusal (Session why) all cause stopped = stopped
as_refusal (Recording why) all cause stopped = stopped
as_refusal why all cause stopped = absurd cause

-- ---- ends that are none of a recorded game

none_needed : (line : List ℕ) (order : Order) → order_of false line ≡ Some order → needs_states order ≡ true → ⊥
none_needed line order is needs = true≢false (sym (needs_are false line order is needs))

pub none_damaged : {lines : List Given} {a b : Option (List ℕ)} (own : List ℕ) → ReadsTo false own [] Damaged lines a b → ⊥
none_damaged own damaged = none_needed damaged.given.line _ damaged.is.1 refl

pub none_of_another : {lines : List Given} {a b : Option (List ℕ)} (own : List ℕ) → ReadsTo false own [] OtherCartridge lines a b → ⊥
none_of_another own other = none_needed other.given.line _ other.is.1 refl

pub none_lacked : {lines : List Given} {a b : Option (List ℕ)} (kept : List KeptMachine) → ReadsTo false [] kept NoMemory lines a b → ⊥
none_lacked kept lacked = elim lacked.is.1 [
  | inl power ↦ none_needed lacked.given.line _ power refl
  | inr keeps ↦ none_needed lacked.given.line _ keeps.1 refl
]
