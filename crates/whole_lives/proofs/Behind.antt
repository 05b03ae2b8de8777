-- A cut of a round, and one life behind another.
use Rattle.std.proofs.Common.{◌≡◌, ℕ, suc, ◌+◌, ◌<◌, List, [], ◌∷◌, ◌++◌, length, take, map, get_or, Bool, true, false, Option, Some, None, refl, sym, ap, ◌∙◌, subst, arith}
use Rattle.std.proofs.Math.Seq.{take-suc}
use Rattle.std.proofs.lemmas.List.{map-append}
use Rattle.std.specs.Option.{option_map}
use Rattle.machine.specs.Machine.{Input}
use Rattle.sector_device.specs.Memory.{MemoryState, fused, memory_disk}
use Rattle.sector_device.specs.Records.{replayed, IsCutOf}
use Rattle.sector_device.specs.declared.recorded.Recorded.{Recorded}
use Rattle.whole_lives.specs.Lives.{Asking, Files, Played, IsRound, IsLife}
use Rattle.whole_lives.specs.Devices.{Memories, AgreesWithEach, IsRecordedLeft, AreLeft, HasLived, LeavesLife, LeavesRound, AreRounds, IsCut, IsCutIfThere, IsCutRound, Obeying, Refusing, with_fuses, texts_of, reports_of, wholes_of}
use Rattle.whole_lives.specs.declared.rounds.Round.{Round}
use Rattle.whole_lives.specs.declared.rounds.RoundEnd.{RoundEnd}

-- ---- one life behind another

pub one_round_lived : (asks : Asking) (rom : List ℕ) (old : Memories) (first last : Files) (round : Played) → AreLeft rom old first → IsRound asks rom round first last → HasLived asks rom old (round.text ∷ []) (round.report ∷ []) (round.whole ∷ []) last
one_round_lived asks rom old first last round left is =
    record { first = first; left = left; rounds = round ∷ []; texts_are = refl; reports_are = refl; wholes_are = refl; life = (last, is, refl) }

life_join : (asks : Asking) (rom : List ℕ) (rounds more : List Played) (first next last : Files) → IsLife asks rom rounds first next → IsLife asks rom more next last → IsLife asks rom (rounds ++ more) first last
life_join asks rom [] more first next last life rest = subst (λ (f : Files). IsLife asks rom more f last) life rest
life_join asks rom (r ∷ rounds) more first next last life rest = (life.0, life.1, life_join asks rom rounds more life.0 next last life.2 rest)

maps_join : {A : Type 0} (f : Played → A) (rounds more : List Played) (list others : List A) → map f rounds ≡ list → map f more ≡ others → map f (rounds ++ more) ≡ list ++ others
maps_join {A} f rounds more list others these those = map-append f rounds more ∙ ap (λ (l : List A). l ++ map f more) these ∙ ap (λ (l : List A). list ++ l) those

pub lived_nothing : (asks : Asking) (rom : List ℕ) (old : Memories) → LeavesLife asks rom old old [] [] []
lived_nothing asks rom old = record {
  agree = λ agree. agree;
  stand = λ stand. stand;
  lives = λ agree last here. record { first = last; left = here; rounds = []; texts_are = refl; reports_are = refl; wholes_are = refl; life = refl };
}

pub lived_both : (asks : Asking) (rom : List ℕ) (old now later : Memories) (texts reports : List (List ℕ)) (wholes : List Bool) (more_texts more_reports : List (List ℕ)) (more_wholes : List Bool) → LeavesLife asks rom old now texts reports wholes
    → LeavesLife asks rom now later more_texts more_reports more_wholes → LeavesLife asks rom old later (texts ++ more_texts) (reports ++ more_reports) (wholes ++ more_wholes)
lived_both asks rom old now later texts reports wholes more_texts more_reports more_wholes before more = record {
  agree = λ agree. more.agree (before.agree agree);
  stand = λ stand. more.stand (before.stand stand);
  lives = λ agree last here.
      let rest = more.lives (before.agree agree) last here in
      let lived = before.lives agree rest.first rest.left in
      record {
        first = lived.first;
        left = lived.left;
        rounds = lived.rounds ++ rest.rounds;
        texts_are = maps_join (λ (round : Played). round.text) lived.rounds rest.rounds texts more_texts lived.texts_are rest.texts_are;
        reports_are = maps_join (λ (round : Played). round.report) lived.rounds rest.rounds reports more_reports lived.reports_are rest.reports_are;
        wholes_are = maps_join (λ (round : Played). round.whole) lived.rounds rest.rounds wholes more_wholes lived.wholes_are rest.wholes_are;
        life = life_join asks rom lived.rounds rest.rounds lived.first rest.first last lived.life rest.life;
      };
}

-- ---- a fuse

-- which changes nothing that a round looks at
module _ (round : Round) where
  recorded_same : (rom : List ℕ) (recording : Option MemoryState) (recorded : Option (List Input)) → IsRecordedLeft rom (option_map (fused round.recording_calls) recording) recorded → IsRecordedLeft rom recording recorded
  recorded_same rom None recorded left = left
  recorded_same rom (Some r) None left = absurd left
  recorded_same rom (Some r) (Some recorded) left = left

  agree_same : (rom : List ℕ) (save : MemoryState) (recording : Option MemoryState) → AgreesWithEach rom save recording → AgreesWithEach rom (fused round.save_calls save) (option_map (fused round.recording_calls) recording)
  agree_same rom save None agree = tt
  agree_same rom save (Some r) agree = agree

  pub fused_leaves : (asks : Asking) (rom : List ℕ) (old now : Memories) (text report : List ℕ) (whole : Bool) → LeavesRound asks rom (with_fuses round old) now text report whole → LeavesRound asks rom old now text report whole
  fused_leaves asks rom old now text report whole leaves = record {
    agree = λ agree. leaves.agree (agree_same rom old.save old.recording agree);
    stand = leaves.stand;
    lives = λ agree last here.
        let lived = leaves.lives (agree_same rom old.save old.recording agree) last here in
        let left = lived.left in
        record {
          first = lived.first;
          left = record { image = left.image; stood = left.stood; stands_is = left.stands_is; recorded = recorded_same rom old.recording lived.first.recorded left.recorded };
          rounds = lived.rounds;
          texts_are = lived.texts_are;
          reports_are = lived.reports_are;
          wholes_are = lived.wholes_are;
          life = lived.life;
        };
  }

-- ---- a cut

-- it leaves no other image
cut_image : (kept : List Bool) (old now : MemoryState) → IsCut kept old now → (image : List (List ℕ)) → (memory_disk now).image image → (memory_disk old).image image
cut_image kept old now is image here =
    let there : IsCutOf (replayed now.at_start []) image = subst (λ (calls : List Recorded). IsCutOf (replayed now.at_start calls) image) is.fresh.recorded here in
    (kept, there.1 ∙ is.sectors)

-- what holds of each image holds of those that are left
module _ (rom : List ℕ) (save_kept recording_kept : List Bool) (save now_save : MemoryState) (by : IsCut save_kept save now_save) where
  agree_left : (recording now_recording : Option MemoryState) → IsCutIfThere recording_kept recording now_recording → AgreesWithEach rom save recording → AgreesWithEach rom now_save now_recording
  agree_left None None cut agree = tt
  agree_left None (Some r) cut agree = absurd cut
  agree_left (Some r) None cut agree = absurd cut
  agree_left (Some r) (Some now) cut agree = λ s image is_save is_recording. agree s image (cut_image save_kept save now_save by s is_save) (cut_image recording_kept r now cut image is_recording)

  recorded_left : (recording now_recording : Option MemoryState) (recorded : Option (List Input)) → IsCutIfThere recording_kept recording now_recording → IsRecordedLeft rom now_recording recorded → IsRecordedLeft rom recording recorded
  recorded_left None None recorded cut left = left
  recorded_left None (Some r) recorded cut left = absurd cut
  recorded_left (Some r) None recorded cut left = absurd cut
  recorded_left (Some r) (Some now) None cut left = absurd left
  recorded_left (Some r) (Some now) (Some recorded) cut left = (left.0, cut_image recording_kept r now cut left.0 left.1, left.2)

pub cut_leaves : (asks : Asking) (obeys : Obeying) (refuses : Refusing) (rom : List ℕ) (old : Memories) (round : Round) (now : Memories) (report : List ℕ) (whole : Bool) → IsCutRound asks obeys refuses rom old round now report whole → LeavesRound asks rom old now round.lines.items report whole
cut_leaves asks obeys refuses rom old round now report whole cut =
    let played = cut.played in
    let leaves = fused_leaves round asks rom old played round.lines.items report whole cut.is_played.leaves in
    record {
      agree = λ agree. agree_left rom round.save_kept.items round.recording_kept.items played.save now.save cut.save played.recording now.recording cut.recording (leaves.agree agree);
      stand = λ stand image here. leaves.stand stand image (cut_image round.save_kept.items played.save now.save cut.save image here);
      lives = λ agree last here.
          leaves.lives agree last
          (record {
            image = here.image;
            stood = cut_image round.save_kept.items played.save now.save cut.save here.image here.stood;
            stands_is = here.stands_is;
            recorded = recorded_left rom round.save_kept.items round.recording_kept.items played.save now.save cut.save played.recording now.recording last.recorded cut.recording here.recorded;
          });
    }

-- ---- rounds

pub rounds_leave : (asks : Asking) (obeys : Obeying) (refuses : Refusing) (rom : List ℕ) (rounds : List Round) (first last : Memories) (reports : List (List ℕ)) (wholes : List Bool) → AreRounds asks obeys refuses rom rounds first last reports wholes → LeavesLife asks rom first last (texts_of rounds) reports wholes
rounds_leave asks obeys refuses rom [] first last [] [] are = subst (λ (m : Memories). LeavesLife asks rom first m [] [] []) (sym are) (lived_nothing asks rom first)
rounds_leave asks obeys refuses rom [] first last [] (whole ∷ wholes) are = absurd are
rounds_leave asks obeys refuses rom [] first last (report ∷ reports) wholes are = absurd are
rounds_leave asks obeys refuses rom (round ∷ rounds) first last [] wholes are = absurd are
rounds_leave asks obeys refuses rom (round ∷ rounds) first last (report ∷ reports) [] are = absurd are
rounds_leave asks obeys refuses rom (round ∷ rounds) first last (report ∷ reports) (whole ∷ wholes) are =
    lived_both asks rom first are.0 last (round.lines.items ∷ []) (report ∷ []) (whole ∷ []) (texts_of rounds) reports wholes (cut_leaves asks obeys refuses rom first round are.0 report whole are.1)
    (rounds_leave asks obeys refuses rom rounds are.0 last reports wholes are.2)

pub rounds_more : (asks : Asking) (obeys : Obeying) (refuses : Refusing) (rom : List ℕ) (rounds : List Round) (first now next : Memories) (reports : List (List ℕ)) (wholes : List Bool) (round : Round) (report : List ℕ) (whole : Bool) → AreRounds asks obeys refuses rom rounds first now reports wholes
    → IsCutRound asks obeys refuses rom now round next report whole → AreRounds asks obeys refuses rom (rounds ++ round ∷ []) first next (reports ++ report ∷ []) (wholes ++ whole ∷ [])
rounds_more asks obeys refuses rom [] first now next [] [] round report whole are cut = (next, subst (λ (m : Memories). IsCutRound asks obeys refuses rom m round next report whole) are cut, refl)
rounds_more asks obeys refuses rom [] first now next [] (w ∷ wholes) round report whole are cut = absurd are
rounds_more asks obeys refuses rom [] first now next (r ∷ reports) wholes round report whole are cut = absurd are
rounds_more asks obeys refuses rom (o ∷ rounds) first now next [] wholes round report whole are cut = absurd are
rounds_more asks obeys refuses rom (o ∷ rounds) first now next (r ∷ reports) [] round report whole are cut = absurd are
rounds_more asks obeys refuses rom (o ∷ rounds) first now next (r ∷ reports) (w ∷ wholes) round report whole are cut =
    (are.0, are.1, rounds_more asks obeys refuses rom rounds are.0 now next reports wholes round report whole are.2 cut)

-- what holds of the reports and the ends with one more holds of those with one end more
pub ends_more : (P : List (List ℕ) → List Bool → Type 0) (ends : List RoundEnd) (end : RoundEnd) → P (reports_of ends ++ end.report.items ∷ []) (wholes_of ends ++ end.whole ∷ []) → P (reports_of (ends ++ end ∷ [])) (wholes_of (ends ++ end ∷ []))
ends_more P ends end is =
    subst (λ (reports : List (List ℕ)). P reports (wholes_of (ends ++ end ∷ []))) (sym (map-append (λ (e : RoundEnd). e.report.items) ends (end ∷ [])))
    (subst (P (reports_of ends ++ end.report.items ∷ [])) (sym (map-append (λ (e : RoundEnd). e.whole) ends (end ∷ []))) is)

-- ---- the first so many rounds

module _ (rounds : List Round) (i : ℕ) (d : Round) (less : i < length rounds) where
  pub take_more : take i rounds ++ get_or rounds i d ∷ [] ≡ take (i + 1) rounds
  take_more =
      let next : suc i ≡ i + 1 = omega arith in
      sym (take-suc rounds i d less) ∙ ap (λ (k : ℕ). take k rounds) next

  pub texts_more : texts_of (take i rounds) ++ (get_or rounds i d).lines.items ∷ [] ≡ texts_of (take (i + 1) rounds)
  texts_more = sym (map-append (λ (round : Round). round.lines.items) (take i rounds) (get_or rounds i d ∷ [])) ∙ ap texts_of take_more
