-- What a round of a SAVE and its recording leaves: not taken up, played to an end, and stopped.
use Rattle.std.proofs.Common.{◌≡◌, inl, inr, ⊎_elim, ℕ, ◌+◌, ◌-◌, ◌≤◌, List, [], ◌∷◌, ◌++◌, length, take, drop, Option, Some, Bool, true, false, refl, sym, ap, ◌∙◌, subst, arith, length-append, length-drop, append-nil}
use Rattle.std.proofs.Math.Seq.{take-append-add}
use Rattle.std.proofs.lemmas.List.{length-map, take_all, take-append-drop}
use Rattle.std.proofs.lemmas.List.Elements.{All-nil}
use Rattle.sha2.specs.Sha256.{sha256}
use Rattle.machine.specs.Machine.{MachineState, start, after}
use Rattle.machine.specs.Machine.{Input}
use Rattle.sector_device.specs.Memory.{MemoryState, memory_disk}
use Rattle.log_format.specs.Content.{content}
use Rattle.recording.specs.Recorded.{recorded}
use Rattle.recording.specs.declared.fault.RecordingFault.TheVariants.{Device as RecordingDevice}
use Rattle.session.specs.Inputs.{input_of}
use Rattle.session.specs.Stands.{IsAtRest, Position, stands, behind}
use Rattle.session.proofs.Saving.{leading}
use Rattle.session.proofs.StandsLaws.{after_append, after_none}
use Rattle.session.specs.declared.error.SessionError.{SessionError}
use Rattle.session.specs.declared.error.SessionError.TheVariants.{Device}
use Rattle.playing.specs.Report.{IsPart}
use Rattle.playing.specs.Lines.{Line, resumed_line, texts}
use Rattle.input_lines.specs.Given.{IsWhole as IsWholeLine}
use Rattle.streaming.specs.Orders.{asked}
use Rattle.streaming.specs.Reading.{Asks, AsksUpTo}
use Rattle.streaming.specs.Reading.Asks.{no_line}
use Rattle.streaming.specs.Reading.AsksUpTo.{all_asked}
use Rattle.streaming.specs.Answers.{inputs_of_deeds, stream_lines}
use Rattle.streaming.specs.declared.obeying.End.{End}
use Rattle.streaming.specs.declared.obeying.End.TheVariants.{Whole, Wrong, Failed}
use Rattle.replaying.specs.Agreeing.{Agrees, AllAgree, recorded_inputs}
use Rattle.recorded_play.specs.Steps.{told_as}
use Rattle.recorded_play.specs.Whole.{IsTakenUp, HasRecorded, HasStopped, IsNotTakenUp, TakeUpImage, IsRecordCause, IsEndCause}
use Rattle.recorded_play.specs.declared.error.RecordError.{RecordError}
use Rattle.recorded_play.specs.declared.error.RecordError.TheVariants.{Session, Recording, Behind, Line as WrongLine, Input as FailedInput}
use Rattle.recorded_play.proofs.Stepping.{entries_of}
use Rattle.recorded_play.proofs.TakenUp.{recorded_leads}
use Rattle.whole_lives.specs.Lives.{Files, IsRecorded, Played, Follows, kept_of, end_of, taken_up_at}
use Rattle.whole_lives.specs.Devices.{Memories, AreLeft, HasLived, LeavesRound, IsFailedCall}
use Rattle.whole_lives.specs.declared.error.LifeError.TheVariants.{Record}
use Rattle.whole_lives.specs.Lines.{AskByLines}
use Rattle.whole_lives.proofs.Behind.{one_round_lived}
use Rattle.whole_lives.proofs.LifeLaws.{agree_more, two_parts}
use Rattle.whole_lives.proofs.RoundLaws.{done_by, some_left, read_more, read_to, is_whole, told_by, counts, reads}
use Rattle.whole_lives.proofs.Telling.{more_at_most, none_at_most, stream_at_most}

-- ---- lists of inputs

-- what images that agree hold agrees
agree_files : (rom : List ℕ) (s r : List (List ℕ)) (save : Position) (inputs : List Input) → stands rom (content s) ≡ Some save → recorded_inputs rom r ≡ Some inputs → Agrees rom s r → IsRecorded rom save inputs
agree_files rom s r save inputs stands_is recorded_is agree =
    let is = agree save stands_is in
    let found = entries_of (recorded (sha256 rom) r) inputs recorded_is in
    let same : is.entries ≡ found.0 = cc (is.holds, found.1) in
    let size : length found.0 ≡ length inputs = sym (length-map found.0 input_of) ∙ ap length found.2 in
    record {
      enough = omega (arith, is.enough, ap length same, size);
      machine_is = recorded_leads rom r save inputs recorded_is is;
    }

-- two that agree, of which the later one has the same recorded, and more behind it
follows : (rom : List ℕ) (first last : Position) (recorded more : List Input) → IsRecorded rom first recorded → IsRecorded rom last (recorded ++ more) → first.count ≤ last.count → Follows (recorded ++ more) first last
follows rom first last recorded more before now later = record {
  later = later;
  enough = now.enough;
  machine_is =
      now.machine_is ∙ sym (two_parts rom first.count last.count (recorded ++ more) later)
      ∙ ap (λ (m : MachineState). after m (take (last.count - first.count) (drop first.count (recorded ++ more)))) (sym (agree_more rom first recorded more before));
}

module _ (rom : List ℕ) (save recording now_save now_recording : MemoryState) (agreed : AllAgree rom (memory_disk save) (memory_disk recording) → AllAgree rom (memory_disk now_save) (memory_disk now_recording)) (text : List ℕ) where
  abbrev old : Memories
  old = record { save = save; recording = Some recording }

  abbrev new : Memories
  new = record { save = now_save; recording = Some now_recording }

  abbrev pub Leaves : (report : List ℕ) → (whole : Bool) → Type 0
  Leaves report whole = LeavesRound AskByLines rom old new text report whole

  abbrev files_of : Position → List Input → Files
  files_of at inputs = record { save = at; recorded = Some inputs }

  -- images that are left and agree
  agree_old : (agree : AllAgree rom (memory_disk save) (memory_disk recording)) (s r : List (List ℕ)) (at : Position) (inputs : List Input) → (memory_disk save).image s → (memory_disk recording).image r → stands rom (content s) ≡ Some at → recorded_inputs rom r ≡ Some inputs
      → IsRecorded rom at inputs
  agree_old agree s r at inputs is_save is_recording stands_is recorded_is = agree_files rom s r at inputs stands_is recorded_is (agree s r is_save is_recording)

  agree_new : (agree : AllAgree rom (memory_disk save) (memory_disk recording)) (s r : List (List ℕ)) (at : Position) (inputs : List Input) → (memory_disk now_save).image s → (memory_disk now_recording).image r → stands rom (content s) ≡ Some at → recorded_inputs rom r ≡ Some inputs
      → IsRecorded rom at inputs
  agree_new agree s r at inputs is_save is_recording stands_is recorded_is = agree_files rom s r at inputs stands_is recorded_is (agreed agree s r is_save is_recording)

  -- ---- not taken up

  -- no line was read, and none told
  abbrev nothing : Played
  nothing = record { text = text; inputs = []; report = []; told = []; kept = 0; whole = false }

  nothing_played : AllAgree rom (memory_disk save) (memory_disk recording) → (at : Position) (inputs : List Input) (s r : List (List ℕ)) → (memory_disk save).image s → stands rom (content s) ≡ Some at → (memory_disk recording).image r → recorded_inputs rom r ≡ Some inputs
      → (last : Files) → AreLeft rom new last → last.recorded ≡ Some inputs → at.count ≤ last.save.count → HasLived AskByLines rom old (text ∷ []) ([] ∷ []) (false ∷ []) last
  nothing_played agree at inputs s r stood stands_is recording_stood recorded_is last here same later =
      let left = some_left rom now_recording last.recorded here.recorded in
      let held : Some left.recorded ≡ Some inputs = sym left.is ∙ same in
      let inputs_are : left.recorded ≡ inputs = cc in
      let all_are : recorded_inputs rom left.image ≡ Some (inputs ++ []) = left.recorded_is ∙ ap Some (inputs_are ∙ sym (append-nil inputs)) in
      one_round_lived AskByLines rom old (files_of at inputs) last nothing
      (record { image = s; stood = stood; stands_is = stands_is; recorded = (r, recording_stood, recorded_is) })
      (record {
        unread = text;
        lines = [];
        asked = record { lines = []; deeds = []; begins = inl (All-nil (IsWholeLine (asked false)), refl); asks = all_asked no_line; inputs_are = refl; told_are = refl };
        untold = resumed_line (length inputs) ∷ [];
        told_are = refl;
        report_is = refl;
        are_saved = none_at_most last.save.count;
        goes_on = (
          same ∙ ap Some (sym (append-nil inputs)),
          follows rom at last.save inputs [] (agree_old agree s r at inputs stood recording_stood stands_is recorded_is)
              (agree_new agree here.image left.image last.save (inputs ++ []) here.stood left.stood here.stands_is all_are) later,
        );
        whole = λ yes. absurd (cc);
      })

  not_taken_up : (why : RecordError) → IsNotTakenUp rom (memory_disk save) (memory_disk now_save) (memory_disk recording) (memory_disk now_recording) why → Leaves [] false
  not_taken_up why refused = record {
    agree = agreed;
    stand = λ stand image here. ⊎_elim (λ before. let stood = stand before.before before.stood in (stood.0, before.is ∙ stood.1)) (λ caught. (_, caught.reaches.is)) (which image here);
    lives = λ agree last here.
        let left = some_left rom now_recording last.recorded here.recorded in
        let recording_stood = (refused.looked tt).images left.image left.stood in
        ⊎_elim
        (λ before.
        nothing_played agree last.save left.recorded before.before left.image before.stood (sym before.is ∙ here.stands_is) recording_stood left.recorded_is last here left.is (omega arith))
        (λ caught.
        let both : Some last.save ≡ Some (record { count = caught.at.count + caught.reaches.count; machine = after caught.at.machine (take caught.reaches.count caught.more) }) = sym here.stands_is ∙ caught.reaches.is in
        let same : last.save ≡ record { count = caught.at.count + caught.reaches.count; machine = after caught.at.machine (take caught.reaches.count caught.more) } = cc in
        nothing_played agree caught.at left.recorded (memory_disk save).sectors left.image (reads save) caught.taken_up.stands_is recording_stood left.recorded_is last here left.is (omega (arith, ap (λ (p : Position). p.count) same)))
        (which here.image here.stood);
  }
    where
      which : (image : List (List ℕ)) → (memory_disk now_save).image image → TakeUpImage rom (memory_disk save) (memory_disk recording) image
      which image here = (refused.images tt tt).each image (counts now_save (memory_disk save).moment image (refused.images tt tt).moments.later here)

  -- ---- taken up

  -- what reads give of both, and where the game then goes on
  module _ (at : Position) (more : List Input) (taken : IsTakenUp rom (memory_disk save).sectors (memory_disk recording).sectors at more) (agree : AllAgree rom (memory_disk save) (memory_disk recording)) where
    left_from : AreLeft rom old (files_of at taken.played)
    left_from = record {
      image = (memory_disk save).sectors;
      stood = reads save;
      stands_is = taken.stands_is;
      recorded = ((memory_disk recording).sectors, reads recording, taken.recorded_is);
    }

    agree_from : IsRecorded rom at taken.played
    agree_from = agree_old agree (memory_disk save).sectors (memory_disk recording).sectors at taken.played (reads save) (reads recording) taken.stands_is taken.recorded_is

    count_behind : at.count + length more ≡ length taken.played
    count_behind = omega (arith, ap length taken.more_is, length-drop at.count taken.played, taken.enough)

    machine_behind : after at.machine more ≡ after (start rom) taken.played
    machine_behind =
        ap (after at.machine) taken.more_is ∙ ap (λ (m : MachineState). after m (drop at.count taken.played)) agree_from.machine_is
        ∙ after_append (start rom) (take at.count taken.played) (drop at.count taken.played)
        ∙ ap (after (start rom)) (take-append-drop at.count taken.played)

    behind_is : behind at more ≡ end_of rom taken.played
    behind_is = λ i. record { count = count_behind i; machine = machine_behind i }

  -- ---- to an end

  -- the position at rest
  settled_at : (end : End) (unread report : List ℕ) (by : HasRecorded rom (memory_disk save) (memory_disk now_save) (memory_disk recording) (memory_disk now_recording) end (Some text) (Some unread) (Some []) (Some report)) (image : List (List ℕ))
      → (memory_disk now_save).image image → stands rom (content image) ≡ Some (behind by.at (by.more ++ inputs_of_deeds by.deeds))
  settled_at end unread report by image here =
      let rests = by.rests tt in
      let lead = leading (stands rom (content (memory_disk now_save).sectors)) [] _ _ rests.leads in
      let given = by.more ++ inputs_of_deeds by.deeds in
      let count_is : lead.position.count ≡ by.at.count + length given = omega (arith, lead.count_is) in
      let same : lead.position ≡ behind by.at given = λ i. record { count = count_is i; machine = (sym (after_none lead.position.machine) ∙ lead.machine_is) i } in
      ap (λ (s : List (List ℕ)). stands rom (content s)) (rests.settled image here) ∙ lead.stood ∙ ap Some same

  recorded_to : (end : End) (unread report : List ℕ) → HasRecorded rom (memory_disk save) (memory_disk now_save) (memory_disk recording) (memory_disk now_recording) end (Some text) (Some unread) (Some []) (Some report)
      → Leaves report (is_whole end)
  recorded_to end unread report by =
      let taken = by.taken_up tt tt in
      let deeds = by.deeds in
      let given = inputs_of_deeds deeds in
      let whole = is_whole end in
      let told = stream_lines (end_of rom taken.played) deeds in
      let read = read_to false rom by.kept end by.lines text unread by.read in
      let holds = by.recorded tt tt in
      let played : Played = record { text = text; inputs = given; report = report; told = told; kept = length given; whole = whole } in
      let kept_is : kept_of played ≡ given = take_all (length given) given (omega arith) in
      record {
        agree = agreed;
        stand = λ stand image here. (_, settled_at end unread report by image here);
        lives = λ agree last here.
            let left = some_left rom now_recording last.recorded here.recorded in
            let both : Some last.save ≡ Some (behind by.at (by.more ++ given)) = sym here.stands_is ∙ settled_at end unread report by here.image here.stood in
            let same : last.save ≡ behind by.at (by.more ++ given) = cc in
            let others : Some left.recorded ≡ Some (taken.played ++ given) = sym left.recorded_is ∙ ap (recorded_inputs rom) (holds.settled left.image left.stood) ∙ holds.recorded_is in
            let recorded_same : left.recorded ≡ taken.played ++ given = cc in
            let kept_same : left.recorded ≡ taken.played ++ kept_of played = recorded_same ∙ ap (λ (l : List Input). taken.played ++ l) (sym kept_is) in
            let size : length (by.more ++ given) ≡ length by.more + length given = length-append by.more given in
            let behind_count = count_behind by.at by.more taken agree in
            let count_is : last.save.count ≡ length taken.played + length given = omega (arith, ap (λ (p : Position). p.count) same, size, behind_count) in
            let from_is = behind_is by.at by.more taken agree in
            one_round_lived AskByLines rom old (files_of by.at taken.played) last played (left_from by.at by.more taken agree)
            (record {
              unread = read.rest;
              lines = told_by (end_of rom taken.played) deeds;
              asked = record {
                lines = by.lines;
                deeds = deeds;
                begins = read.begins_so;
                asks = done_by whole false rom (end_of rom taken.played).machine by.lines by.deeds by.kept (subst (λ (m : MachineState). Asks false rom m by.lines by.deeds by.kept) (ap (λ (p : Position). p.machine) from_is) by.asks);
                inputs_are = refl;
                told_are = refl;
              };
              untold = [];
              told_are = sym (append-nil told);
              report_is = by.answered ∙ ap (λ (p : Position). texts (stream_lines p deeds)) from_is;
              are_saved = more_at_most (length taken.played + length given) last.save.count told (omega (arith, count_is)) (stream_at_most (end_of rom taken.played) deeds);
              goes_on = (
                left.is ∙ ap Some kept_same,
                follows rom by.at last.save taken.played (kept_of played) (agree_from by.at by.more taken agree)
                    (agree_new agree here.image left.image last.save (taken.played ++ kept_of played) here.stood left.stood here.stands_is (left.recorded_is ∙ ap Some kept_same))
                    (omega (arith, count_is, taken.enough)),
              );
              whole = λ yes. record {
                read = read.none yes;
                told = refl;
                kept = kept_is;
                saved =
                    let all_are : length left.recorded ≡ length taken.played + length given = ap length recorded_same ∙ length-append taken.played given in
                    count_is ∙ sym all_are ∙ ap (λ (r : Option (List Input)). (taken_up_at rom last.save r).count) (sym left.is);
              };
            });
      }

  -- ---- stopped

  -- the report of a round that was refused: the lines that were written, and a part of the next one where the output failed
  pub record LeavesPart (why : RecordError) (report : List ℕ) : Type 0 where
    pub front : List ℕ
    pub whole : told_as why ≡ Device → front ≡ report
    pub leaves : Leaves front false

  no_part : (why : SessionError) (rest : List Line) (part : List ℕ) → IsPart why rest part → why ≡ Device → part ≡ []
  no_part why rest part is device = subst (λ (w : SessionError). IsPart w rest part) device is

  stopped_in : (why : RecordError) (unread report : List ℕ) → HasStopped rom (memory_disk save) (memory_disk now_save) (memory_disk recording) (memory_disk now_recording) why (Some text) (Some unread) (Some []) (Some report)
      → LeavesPart why report
  stopped_in why unread report by =
      let taken = by.taken_up tt tt in
      let deeds = by.deeds in
      let given = inputs_of_deeds deeds in
      let told = by.told.whole in
      let untold = by.told.rest in
      let least : ℕ = by.at.count + length by.more + by.least in
      let read = read_more false by.lines by.unread text unread by.read in
      record {
        front = texts told;
        whole = λ device.
            let none = no_part (told_as why) untold by.told.part by.told.part_is device in
            sym (by.told.text ∙ ap (λ (l : List ℕ). texts told ++ l) none ∙ append-nil (texts told));
        leaves = record {
          agree = agreed;
          stand = λ stand image here. (_, (by.left tt image here).is);
          lives = λ agree last here.
              let left = some_left rom now_recording last.recorded here.recorded in
              let reached = by.left tt here.image here.stood in
              let held = by.recorded tt tt agree left.image left.stood in
              let kept : ℕ = held.count - length taken.played in
              let played : Played = record { text = text; inputs = given; report = texts told; told = told; kept = kept; whole = false } in
              let both : Some last.save ≡ Some (record { count = by.at.count + reached.count; machine = after by.at.machine (take reached.count (by.more ++ given)) }) = sym here.stands_is ∙ reached.is in
              let same : last.save ≡ record { count = by.at.count + reached.count; machine = after by.at.machine (take reached.count (by.more ++ given)) } = cc in
              let count_is : last.save.count ≡ by.at.count + reached.count = ap (λ (p : Position). p.count) same in
              let others : Some left.recorded ≡ Some (take held.count (taken.played ++ given)) = sym left.recorded_is ∙ held.is in
              let recorded_same : left.recorded ≡ take held.count (taken.played ++ given) = cc in
              let behind_count = count_behind by.at by.more taken agree in
              let split : held.count ≡ length taken.played + kept = omega (arith, held.at_least, behind_count) in
              let kept_same : left.recorded ≡ taken.played ++ kept_of played =
              recorded_same ∙ ap (λ (n : ℕ). take n (taken.played ++ given)) split ∙ take-append-add taken.played given kept in
              let from_is = behind_is by.at by.more taken agree in
              one_round_lived AskByLines rom old (files_of by.at taken.played) last played (left_from by.at by.more taken agree)
              (record {
                unread = read.rest;
                lines = told_by (end_of rom taken.played) deeds;
                asked = record {
                  lines = by.lines;
                  deeds = deeds;
                  begins = read.begins_so;
                  asks = subst (λ (m : MachineState). AsksUpTo false rom m by.lines by.deeds) (ap (λ (p : Position). p.machine) from_is) by.asks;
                  inputs_are = refl;
                  told_are = refl;
                };
                untold = untold;
                told_are = ap (λ (p : Position). stream_lines p deeds) (sym from_is) ∙ by.told.lines_are;
                report_is = refl;
                are_saved = more_at_most least last.save.count told (omega (arith, count_is, reached.at_least)) by.told.are_saved;
                goes_on = (
                  left.is ∙ ap Some kept_same,
                  follows rom by.at last.save taken.played (kept_of played) (agree_from by.at by.more taken agree)
                      (agree_new agree here.image left.image last.save (taken.played ++ kept_of played) here.stood left.stood here.stands_is (left.recorded_is ∙ ap Some kept_same))
                      (omega (arith, count_is)),
                );
                whole = λ yes. absurd (cc);
              });
        };
      }

  -- ---- a round that is refused

  whole_part : (why : RecordError) (report : List ℕ) → Leaves report false → LeavesPart why report
  whole_part why report leaves = record { front = report; whole = λ device. refl; leaves = leaves }

  ended_in : (why : RecordError) (unread report : List ℕ) → IsEndCause why rom (memory_disk save) (memory_disk now_save) (memory_disk recording) (memory_disk now_recording) (Some text) (Some unread) (Some []) (Some report) → LeavesPart why report
  ended_in (Session why) unread report by = stopped_in (Session why) unread report by
  ended_in (Recording why) unread report by = stopped_in (Recording why) unread report by
  ended_in (Behind count) unread report by = absurd by
  ended_in (WrongLine number) unread report by = whole_part (WrongLine number) report (recorded_to (Wrong number) unread report by)
  ended_in FailedInput unread report by = whole_part FailedInput report (recorded_to Failed unread report by)

  pub refused_in : (why : RecordError) (unread report : List ℕ) → IsRecordCause why rom (memory_disk save) (memory_disk now_save) (memory_disk recording) (memory_disk now_recording) (Some text) (Some unread) (Some []) (Some report)
      → LeavesPart why report
  refused_in why unread report (inl (refused, kept, unread_is)) = subst (LeavesPart why) (sym kept) (whole_part why [] (not_taken_up why refused))
  refused_in why unread report (inr by) = ended_in why unread report by

  pub whole_in : (unread report : List ℕ) → HasRecorded rom (memory_disk save) (memory_disk now_save) (memory_disk recording) (memory_disk now_recording) Whole (Some text) (Some unread) (Some []) (Some report)
      → Leaves report true
  whole_in unread report by = recorded_to Whole unread report by

  -- where the game is that was given all
  pub ends_at : (unread report : List ℕ) (count : ℕ) (machine : MachineState) (by : HasRecorded rom (memory_disk save) (memory_disk now_save) (memory_disk recording) (memory_disk now_recording) Whole (Some text) (Some unread) (Some []) (Some report))
      → stands rom (content (memory_disk now_save).sectors) ≡ Some (record { count = count; machine = machine }) → AreLeft rom new (files_of (record { count = count; machine = machine }) ((by.taken_up tt tt).played ++ inputs_of_deeds by.deeds))
  ends_at unread report count machine by is = record {
    image = (memory_disk now_save).sectors;
    stood = reads now_save;
    stands_is = is;
    recorded = ((memory_disk now_recording).sectors, reads now_recording, (by.recorded tt tt).recorded_is);
  }

-- to the report a call that failed is one of the SAVE's device
pub failed_recorded : (why : RecordError) → IsFailedCall (Record why) → told_as why ≡ Device
failed_recorded why (inl stream) = absurd (cc)
failed_recorded why (inr (inl save_call)) = let is : why ≡ Session Device = cc in ap told_as is
failed_recorded why (inr (inr recording_call)) = let is : why ≡ Recording RecordingDevice = cc in ap told_as is

-- what a device at rest stands for
pub rested_at : (rom : List ℕ) (now : MemoryState) (count : ℕ) (machine : MachineState) → IsAtRest rom (memory_disk now) count [] machine → stands rom (content (memory_disk now).sectors) ≡ Some (record { count = count; machine = machine })
rested_at rom now count machine rests =
    let lead = leading (stands rom (content (memory_disk now).sectors)) [] _ _ rests.leads in
    let count_is : lead.position.count ≡ count = omega (arith, lead.count_is) in
    let machine_is : lead.position.machine ≡ machine = sym (after_none lead.position.machine) ∙ lead.machine_is in
    lead.stood ∙ (λ i. Some (record { count = count_is i; machine = machine_is i }))
