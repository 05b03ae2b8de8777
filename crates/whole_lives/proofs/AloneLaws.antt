-- What a round of a SAVE alone leaves: not taken up, played to an end, and stopped.
use Rattle.std.proofs.Common.{◌≡◌, inl, inr, ℕ, ◌+◌, List, [], ◌∷◌, ◌++◌, length, take, Option, Some, None, Bool, true, false, refl, sym, ap, ◌∙◌, subst, arith, append-nil}
use Rattle.std.proofs.lemmas.List.{length-take-le, take_all}
use Rattle.std.proofs.lemmas.List.Elements.{All-nil}
use Rattle.machine.specs.Machine.{MachineState, after}
use Rattle.machine.specs.Machine.{Input}
use Rattle.sector_device.specs.Memory.{MemoryState, memory_disk}
use Rattle.log_format.specs.Content.{content}
use Rattle.session.specs.Stands.{Position, StandsAsBefore, stands, behind}
use Rattle.session.proofs.Saving.{leading}
use Rattle.session.proofs.StandsLaws.{after_none}
use Rattle.session.specs.declared.error.SessionError.{SessionError}
use Rattle.session.specs.declared.error.SessionError.TheVariants.{Device}
use Rattle.playing.specs.Played.{IsNotTakenUp}
use Rattle.playing.specs.Report.{IsPart}
use Rattle.playing.specs.Lines.{resumed_line, texts}
use Rattle.input_lines.specs.Given.{IsWhole as IsWholeLine}
use Rattle.streaming.specs.Orders.{asked}
use Rattle.streaming.specs.Reading.Asks.{no_line}
use Rattle.streaming.specs.Reading.AsksUpTo.{all_asked}
use Rattle.streaming.specs.Answers.{inputs_of_deeds, stream_lines}
use Rattle.streaming.specs.Streamed.{HasStreamed, HasStreamedAll, HasStopped, IsStreamCause}
use Rattle.streaming.specs.declared.error.StreamError.{StreamError}
use Rattle.streaming.specs.declared.error.StreamError.TheVariants.{Session, Line as WrongLine, Input as FailedInput, Snapshot, OtherCartridge as NamesAnother, Memory}
use Rattle.streaming.specs.declared.obeying.End.{End}
use Rattle.streaming.specs.declared.obeying.End.TheVariants.{Whole, Wrong, Failed, Damaged, OtherCartridge, NoMemory}
use Rattle.whole_lives.specs.Lives.{Files, Played, kept_of, taken_up_at}
use Rattle.whole_lives.specs.Devices.{Memories, AreLeft, LeavesRound, IsFailedCall}
use Rattle.whole_lives.specs.declared.error.LifeError.TheVariants.{Stream}
use Rattle.whole_lives.specs.Lines.{AskByLines}
use Rattle.whole_lives.proofs.Behind.{one_round_lived}
use Rattle.whole_lives.proofs.LifeLaws.{behind_none}
use Rattle.whole_lives.proofs.RoundLaws.{done_by, none_left, read_more, read_to, is_whole, told_by, counts, reads}
use Rattle.whole_lives.proofs.Telling.{more_at_most, none_at_most, stream_at_most}

module _ (rom : List ℕ) (save now : MemoryState) (text : List ℕ) where
  abbrev old : Memories
  old = record { save = save; recording = None }

  abbrev new : Memories
  new = record { save = now; recording = None }

  abbrev pub Leaves : (report : List ℕ) → (whole : Bool) → Type 0
  Leaves report whole = LeavesRound AskByLines rom old new text report whole

  abbrev at : Position → Files
  at from = record { save = from; recorded = None }

  -- ---- not taken up

  -- no line was read, and none told
  abbrev nothing : Played
  nothing = record { text = text; inputs = []; report = []; told = []; kept = 0; whole = false }

  not_taken_up : {why : SessionError} {before since : Option (List ℕ)} → IsNotTakenUp rom (memory_disk save) (memory_disk now) why before since → Leaves [] false
  not_taken_up refused = record {
    agree = λ agree. tt;
    stand = λ stand image here. let before = which image here in let stood = stand before.before before.stood in (stood.0, before.is ∙ stood.1);
    lives = λ agree last here.
        let none = none_left rom last.recorded here.recorded in
        let before = which here.image here.stood in
        one_round_lived AskByLines rom old (at last.save) last nothing
        (record { image = before.before; stood = before.stood; stands_is = sym before.is ∙ here.stands_is; recorded = tt })
        (record {
          unread = text;
          lines = [];
          asked = record { lines = []; deeds = []; begins = inl (All-nil (IsWholeLine (asked true)), refl); asks = all_asked no_line; inputs_are = refl; told_are = refl };
          untold = resumed_line last.save.count ∷ [];
          told_are = refl;
          report_is = refl;
          are_saved = none_at_most last.save.count;
          goes_on = (sym (behind_none last.save), none);
          whole = λ yes. absurd (cc);
        });
  }
    where
      which : (image : List (List ℕ)) → (memory_disk now).image image → StandsAsBefore rom (memory_disk save) image
      which image here = (refused.images tt).each image (counts now (memory_disk save).moment image (refused.images tt).moments.later here)

  -- ---- taken up

  left_from : (from : Position) → stands rom (content (memory_disk save).sectors) ≡ Some from → AreLeft rom old (at from)
  left_from from stood = record { image = (memory_disk save).sectors; stood = reads save; stands_is = stood; recorded = tt }

  -- the position at rest
  settled_at : (end : End) (unread : Option (List ℕ)) (report : Option (List ℕ)) (by : HasStreamed rom (memory_disk save) (memory_disk now) end (Some text) unread (Some []) report) (image : List (List ℕ)) → (memory_disk now).image image
      → stands rom (content image) ≡ Some (behind by.from (inputs_of_deeds by.deeds))
  settled_at end unread report by image here =
      let rests = by.rests tt in
      let lead = leading (stands rom (content (memory_disk now).sectors)) [] _ _ rests.leads in
      let given = inputs_of_deeds by.deeds in
      let count_is : lead.position.count ≡ by.from.count + length given = omega (arith, lead.count_is) in
      let same : lead.position ≡ behind by.from given = λ i. record { count = count_is i; machine = (sym (after_none lead.position.machine) ∙ lead.machine_is) i } in
      ap (λ (s : List (List ℕ)). stands rom (content s)) (rests.settled image here) ∙ lead.stood ∙ ap Some same

  streamed_to : (end : End) (unread report : List ℕ) → HasStreamed rom (memory_disk save) (memory_disk now) end (Some text) (Some unread) (Some []) (Some report) → Leaves report (is_whole end)
  streamed_to end unread report by =
      let deeds = by.deeds in
      let given = inputs_of_deeds deeds in
      let whole = is_whole end in
      let told = stream_lines by.from deeds in
      let read = read_to true rom by.kept end by.lines text unread by.read in
      let played : Played = record { text = text; inputs = given; report = report; told = told; kept = length given; whole = whole } in
      let kept_is : kept_of played ≡ given = take_all (length given) given (omega arith) in
      record {
        agree = λ agree. tt;
        stand = λ stand image here. (behind by.from given, settled_at end (Some unread) (Some report) by image here);
        lives = λ agree last here.
            let none = none_left rom last.recorded here.recorded in
            let both : Some last.save ≡ Some (behind by.from given) = sym here.stands_is ∙ settled_at end (Some unread) (Some report) by here.image here.stood in
            let same : last.save ≡ behind by.from given = cc in
            let count_is : last.save.count ≡ by.from.count + length given = ap (λ (p : Position). p.count) same in
            one_round_lived AskByLines rom old (at by.from) last played (left_from by.from (by.stood tt))
            (record {
              unread = read.rest;
              lines = told_by by.from deeds;
              asked = record { lines = by.lines; deeds = deeds; begins = read.begins_so; asks = done_by whole true rom by.from.machine by.lines deeds by.kept by.asks; inputs_are = refl; told_are = refl };
              untold = [];
              told_are = sym (append-nil told);
              report_is = by.answered;
              are_saved = more_at_most (by.from.count + length given) last.save.count told (omega (arith, count_is)) (stream_at_most by.from deeds);
              goes_on = (same ∙ ap (behind by.from) (sym kept_is), none);
              whole = λ yes. record { read = read.none yes; told = refl; kept = kept_is; saved = ap (λ (r : Option (List Input)). (taken_up_at rom last.save r).count) (sym none) };
            });
      }

  -- ---- stopped

  -- the report of a round that was refused: the lines that were written, and a part of the next one where the output failed
  pub record LeavesPart (why : StreamError) (report : List ℕ) : Type 0 where
    pub front : List ℕ
    pub whole : why ≡ Session Device → front ≡ report
    pub leaves : Leaves front false

  stopped_in : (why : SessionError) (unread report : List ℕ) → HasStopped rom (memory_disk save) (memory_disk now) why (Some text) (Some unread) (Some []) (Some report) → LeavesPart (Session why) report
  stopped_in why unread report by =
      let deeds = by.deeds in
      let given = inputs_of_deeds deeds in
      let told = by.told.whole in
      let untold = by.told.rest in
      let least : ℕ = by.from.count + by.least in
      let read = read_more true by.lines by.more text unread by.read in
      record {
        front = texts told;
        whole = λ device.
            let is : why ≡ Device = cc in
            let none : by.told.part ≡ [] = subst (λ (w : SessionError). IsPart w untold by.told.part) is by.told.part_is in
            sym (by.told.text ∙ ap (λ (l : List ℕ). texts told ++ l) none ∙ append-nil (texts told));
        leaves = record {
          agree = λ agree. tt;
          stand = λ stand image here. (_, (by.left tt image here).is);
          lives = λ agree last here.
              let none = none_left rom last.recorded here.recorded in
              let reached = by.left tt here.image here.stood in
              let played : Played = record { text = text; inputs = given; report = texts told; told = told; kept = reached.count; whole = false } in
              let both : Some last.save ≡ Some (record { count = by.from.count + reached.count; machine = after by.from.machine (take reached.count given) }) = sym here.stands_is ∙ reached.is in
              let same : last.save ≡ record { count = by.from.count + reached.count; machine = after by.from.machine (take reached.count given) } = cc in
              let count_is : last.save.count ≡ by.from.count + reached.count = ap (λ (p : Position). p.count) same in
              let size : by.from.count + reached.count ≡ by.from.count + length (take reached.count given) = omega (arith, length-take-le reached.count given reached.within) in
              one_round_lived AskByLines rom old (at by.from) last played (left_from by.from (by.stood tt))
              (record {
                unread = read.rest;
                lines = told_by by.from by.deeds;
                asked = record { lines = by.lines; deeds = by.deeds; begins = read.begins_so; asks = by.asks; inputs_are = refl; told_are = refl };
                untold = untold;
                told_are = by.told.lines_are;
                report_is = refl;
                are_saved = more_at_most least last.save.count told (omega (arith, count_is, reached.at_least)) by.told.are_saved;
                goes_on = (same ∙ (λ i. record { count = size i; machine = after by.from.machine (take reached.count given) }), none);
                whole = λ yes. absurd (cc);
              });
        };
      }

  whole_part : (why : StreamError) (report : List ℕ) → Leaves report false → LeavesPart why report
  whole_part why report leaves = record { front = report; whole = λ device. refl; leaves = leaves }

  pub refused_in : (why : StreamError) (unread report : List ℕ) → IsStreamCause why rom (memory_disk save) (memory_disk now) (Some text) (Some unread) (Some []) (Some report) → LeavesPart why report
  refused_in (Session why) unread report (inl (refused, unread_is)) = subst (LeavesPart (Session why)) (sym refused.report) (whole_part (Session why) [] (not_taken_up refused))
  refused_in (Session why) unread report (inr by) = stopped_in why unread report by
  refused_in (WrongLine number) unread report by = whole_part (WrongLine number) report (streamed_to (Wrong number) unread report by)
  refused_in FailedInput unread report by = whole_part FailedInput report (streamed_to Failed unread report by)
  refused_in Snapshot unread report by = whole_part Snapshot report (streamed_to Damaged unread report by)
  refused_in NamesAnother unread report by = whole_part NamesAnother report (streamed_to OtherCartridge unread report by)
  refused_in Memory unread report by = whole_part Memory report (streamed_to NoMemory unread report by)

  pub whole_in : (unread report : List ℕ) → HasStreamed rom (memory_disk save) (memory_disk now) Whole (Some text) (Some unread) (Some []) (Some report) → Leaves report true
  whole_in unread report by = streamed_to Whole unread report by

  -- where the game is that was given all
  pub ends_at : (count : ℕ) (machine : MachineState) (unread report : List ℕ) (by : HasStreamedAll rom (memory_disk save) (memory_disk now) count machine (Some text) (Some unread) (Some []) (Some report)) → AreLeft rom new (at (record { count = count; machine = machine }))
  ends_at count machine unread report by = record {
    image = (memory_disk now).sectors;
    stood = reads now;
    stands_is =
        settled_at Whole (Some unread) (Some report) by.streamed (memory_disk now).sectors (reads now)
        ∙ (λ i. Some (record { count = sym by.count_is i; machine = sym by.machine_is i }));
    recorded = tt;
  }

-- the failed call of a stream is one of the SAVE's device
pub failed_alone : (why : StreamError) → IsFailedCall (Stream why) → why ≡ Session Device
failed_alone why (inl stream) = let is : why ≡ Session Device = cc in is
failed_alone why (inr (inl record_call)) = absurd (cc)
failed_alone why (inr (inr recording_call)) = absurd (cc)
