-- A save of both devices: the recording first, and then the SAVE.
use Rattle.std.proofs.Common.{◌≡◌, inl, ℕ, ◌+◌, ◌≤◌, List, [], ◌++◌, length, take, drop, Some, Bool, false, refl, sym, ap, ◌∙◌, subst, arith, append-nil, length-append}
use Rattle.std.proofs.lemmas.List.{take_all}
use Rattle.machine.specs.Machine.{Input}
use Rattle.sector_device.specs.DiskState.{DiskState}
use Rattle.sector_device.specs.Runs.{HoldsSince}
use Rattle.sector_device.proofs.Runs.{holds_since}
use Rattle.input_entries.specs.declared.Entry.{Entry}
use Rattle.recording.specs.Calls.{HoldsPrefix, IsAppended, IsAppendCause}
use Rattle.recording.specs.Growing.{fits_image}
use Rattle.recording.specs.declared.fault.RecordingFault.{RecordingFault}
use Rattle.recording.specs.declared.fault.RecordingFault.TheVariants.{Device, Full, Broken}
use Rattle.session.specs.Inputs.{inputs_of}
use Rattle.session.proofs.Writes.{since_weaker}
use Rattle.playing.specs.Played.{Reaches, Stopped}
use Rattle.playing.proofs.PlayLaws.{reaches_none}
use Rattle.playing.specs.Going.{Place, all_of}
use Rattle.replaying.specs.Agreeing.{Agrees}
use Rattle.recorded_play.specs.Steps.{Game, power_on, HoldsFirst, HoldsSaved, Records, IsFull, IsInStep, IsBehind, StopsAppend}
use Rattle.recorded_play.proofs.Recordings.{unsaved, holds_first, holds_here, saved_all, first_none}
use Rattle.playing.proofs.Going.{IsNow}
use Rattle.recorded_play.proofs.Stepping.{reached_agrees, save_reaches}

-- why an append stops a play
pub append_stops : (why : RecordingFault) (broken fits : Bool) → broken ≡ false → IsAppendCause why broken fits → StopsAppend why
append_stops Device broken fits unbroken cause = tt
append_stops Full broken fits unbroken cause = tt
append_stops Broken broken fits unbroken cause = cc
append_stops why broken fits unbroken cause = cause

-- ---- the recording

module _ (rom : List ℕ) (old new : DiskState) (acknowledged : ℕ) (pending : List Entry) (all : List Input) (held : HoldsSaved rom old acknowledged pending all) (append : HoldsSince old new (HoldsPrefix old.sectors pending)) where
  pub appending : HoldsSince old new (HoldsFirst rom acknowledged all)
  appending = since_weaker append (holds_first rom old acknowledged pending all held)

  pub appending_some : HoldsSince old new (HoldsFirst rom 0 all)
  appending_some = since_weaker append (λ image prefix. first_none rom acknowledged all image (holds_first rom old acknowledged pending all held image prefix))

  -- what was recorded
  pub appended : (then : ℕ) (cleared : List Entry) → new.honest → then ≡ acknowledged + length pending → cleared ≡ [] → IsAppended old new pending → Records rom old new then cleared (all ++ [])
  appended then cleared honest then_is empty done =
      subst (Records rom old new then cleared) (sym (append-nil all)) (record { moments = appending_some; holds = saved_all rom old acknowledged pending all held new then cleared honest then_is empty done })

-- the inputs that were refused are what is pending, and the recording is as it was
pub is_full_of : (rom : List ℕ) (old new : DiskState) (acknowledged : ℕ) (pending given : List Entry) (all : List Input) → given ≡ pending → new ≡ old → HoldsSaved rom old acknowledged pending all → fits_image old.sectors given ≡ false → IsFull rom new (all ++ [])
is_full_of rom old new acknowledged pending given all same stays held too_many =
    let whole : take (length all) (all ++ []) ≡ all = ap (take (length all)) (append-nil all) ∙ take_all (length all) all (omega arith) in
    subst (λ (d : DiskState). IsFull rom d (all ++ [])) (sym stays) (record {
      saved = acknowledged;
      recorded_is = held.recorded_is ∙ ap (λ (l : List Input). Some (take acknowledged l)) (sym (append-nil all));
      given = length all;
      saved_given = held.within;
      within = omega (arith, length-append all []);
      unsaved = given;
      unsaved_is = ap inputs_of same ∙ held.pending_is ∙ ap (drop acknowledged) (sym whole);
      too_many = too_many;
    })

-- ---- both

module _ (rom : List ℕ) (a : Game) (all : List Input) (step : IsInStep rom a all) where
  -- all that was given fits what is saved then
  pub whole : take (all_of a.save) all ≡ all
  whole = take_all (all_of a.save) all (omega (arith, unsaved rom a.recording a.save.acknowledged a.save.pending all step.holds, step.holds.within))

  pub most_within : all_of a.save ≤ length all
  most_within = omega (arith, unsaved rom a.recording a.save.acknowledged a.save.pending all step.holds, step.holds.within)

  module _ (new : DiskState) (append : HoldsSince a.recording new (HoldsPrefix a.recording.sectors a.save.pending)) where
    held : HoldsSince a.recording new (HoldsFirst rom a.save.acknowledged all)
    held = appending rom a.recording new a.save.acknowledged a.save.pending all step.holds append

    -- first the recording moves, and the SAVE does not
    pub recording_moves : HoldsSince a.recording new (λ r. (s : List (List ℕ)) → a.save.disk.image s → Agrees rom s r)
    recording_moves = since_weaker held (λ r first s here. reached_agrees rom all a.save.acknowledged s r (save_reaches rom a all step s here) first)

    module _ (counts : (t : ℕ) (image : List (List ℕ)) → t ≤ new.moment → new.image image → new.since t image) where
      left : (image : List (List ℕ)) → new.image image → HoldsFirst rom a.save.acknowledged all image
      left image here = held.each image (counts a.recording.moment image append.moments.later here)

      -- an append that was refused
      pub behind_appended : new.honest → IsBehind rom a (record { save = a.save; recording = new }) (all ++ [])
      behind_appended honest = subst (IsBehind rom a (record { save = a.save; recording = new })) (sym (append-nil all)) (record {
        honest = honest;
        moments = appending_some rom a.recording new a.save.acknowledged a.save.pending all step.holds append;
        most = a.save.acknowledged;
        within = step.holds.within;
        least = omega arith;
        saves = save_reaches rom a all step;
        recordings = left;
      })

      pub save_stays : IsNow a.save.disk → HoldsSince a.save.disk a.save.disk (λ s. (r : List (List ℕ)) → new.image r → Agrees rom s r)
      save_stays only =
          holds_since only (record { later = omega arith; each = λ t c le since. inl since }) (λ t c le since. since)
          (λ s here r is_r. reached_agrees rom all a.save.acknowledged s r (save_reaches rom a all step s here) (left r is_r))

    -- one that was made
    module _ (honest : new.honest) (done : IsAppended a.recording new a.save.pending) where
      recorded_all : HoldsSaved rom new (all_of a.save) [] all
      recorded_all = saved_all rom a.recording a.save.acknowledged a.save.pending all step.holds new (all_of a.save) [] honest refl refl done

      all_first : (image : List (List ℕ)) → new.image image → HoldsFirst rom (all_of a.save) all image
      all_first = holds_here rom new (all_of a.save) [] all recorded_all

      -- then the SAVE moves, and the recording does not
      pub save_moves : (moved : DiskState) → HoldsSince a.save.disk moved (Reaches rom (power_on rom) 0 all) → HoldsSince a.save.disk moved (λ s. (r : List (List ℕ)) → new.image r → Agrees rom s r)
      save_moves moved since =
          since_weaker since (λ s reaches r is_r.
          reached_agrees rom all (all_of a.save) s r (subst (λ (l : List Input). Reaches rom (power_on rom) 0 l s) (sym whole) reaches) (all_first r is_r))

      -- a save that was refused
      pub behind_failed : (moved : Place) → moved.acknowledged ≡ a.save.acknowledged → Stopped rom a.save.disk moved.disk moved.acknowledged (power_on rom) all → IsBehind rom a (record { save = moved; recording = new }) (all ++ [])
      behind_failed moved same stopped = subst (IsBehind rom a (record { save = moved; recording = new })) (sym (append-nil all)) (record {
        honest = honest;
        moments = appending_some rom a.recording new a.save.acknowledged a.save.pending all step.holds append;
        most = all_of a.save;
        within = most_within;
        least = omega (arith, same);
        saves = λ image here.
            subst (λ (l : List Input). Reaches rom (power_on rom) 0 l image) (sym whole) (reaches_none rom (power_on rom) stopped.least all image (stopped.images image here));
        recordings = all_first;
      })
