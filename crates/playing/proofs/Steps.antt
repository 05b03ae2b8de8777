-- One save, and one input, with what is written for them.
use Rattle.std.proofs.Common.{◌≡◌, ℕ, ◌+◌, ◌≤◌, List, [], ◌∷◌, Option, refl, ap, ◌∙◌, subst, arith}
use Rattle.std.proofs.lemmas.List.Elements.{All-nil}
use Rattle.std.specs.Io.KnownBytes.{Appends}
use Rattle.exact_text.specs.Written.{AppendsProperPrefix}
use Rattle.exact_text.proofs.Writes.{appends_nothing}
use Rattle.machine.specs.Machine.{Input}
use Rattle.session.specs.declared.error.SessionError.TheVariants.{Output}
use Rattle.playing.specs.Making.{count_of, IsGiven, IsSaved, AdvancesTelling, StopsTelling, AdvancesByInputs, StopsByInputs}
use Rattle.playing.specs.Making.Advances.{stays, by_input, by_save}
use Rattle.playing.specs.Making.Stops.{at_input, at_save}
use Rattle.playing.specs.Report.{lines_of_inputs}
use Rattle.playing.specs.Lines.{saved_line}
use Rattle.playing.specs.declared.playable.Playable.{Ghosts}
use Rattle.playing.proofs.Making.{makes_by, makes_line, makes_then, stops_at_line, stops_by, stops_then}
use Rattle.playing.proofs.ReportLaws.{is_due, not_due}
use Rattle.playing.proofs.Telling.{told_nothing}

module _ {G F : Type 0} (game : Ghosts G F) where
  -- ---- a save

  module _ (a b : G) (x : Option (List ℕ)) where
    saved_alone : IsSaved game a b → AdvancesTelling game a b x x [] 0 []
    saved_alone one = record { advances = by_save one (stays b); unsaved_is = one.unsaved_is; answered = appends_nothing x; are_saved = All-nil (λ line. line.told ≤ game.acknowledged b) }

    pub save_refused : (has_failed : Type 0) (why : F) → game.fails a b why → game.acknowledged b ≡ game.acknowledged a → (game.told_as why ≡ Output → ⊥)
        → StopsTelling game a b x x has_failed [] (saved_line (count_of game a) ∷ []) why
    save_refused has_failed why failed same other = record {
      stops = at_save failed same;
      told = told_nothing (game.told_as why) (game.acknowledged b) (saved_line (count_of game a) ∷ []) x other;
      output = λ is. absurd (other is);
    }

    -- and then its line
    module _ (y : Option (List ℕ)) (one : IsSaved game a b) (all : ℕ) (all_is : all ≡ count_of game a) where
      pub save_told : Appends x y (saved_line all).text → AdvancesTelling game a b x y [] 0 (saved_line (count_of game a) ∷ [])
      save_told written =
          makes_by game refl one.unsaved_is refl
          (makes_then game (saved_alone one) (makes_line game b x y (saved_line (count_of game a)) (omega (arith, one.acknowledged_is)) (subst (λ (n : ℕ). Appends x y (saved_line n).text) all_is written)))

      pub save_not_told : (has_failed : Type 0) → game.told_as game.unwritten ≡ Output → has_failed → AppendsProperPrefix x y (saved_line all).text → StopsTelling game a b x y has_failed [] (saved_line (count_of game a) ∷ []) game.unwritten
      save_not_told has_failed is fails part =
          stops_then game (saved_alone one) (stops_at_line game b x y (saved_line (count_of game a)) is fails (subst (λ (n : ℕ). AppendsProperPrefix x y (saved_line n).text) all_is part))

  -- ---- an input

  module _ (a b : G) (x : Option (List ℕ)) (input : Input) where
    given_so : IsGiven game a b input → AdvancesTelling game a b x x (input ∷ []) (game.unsaved a + 1) []
    given_so one = record { advances = by_input one (stays b); unsaved_is = one.unsaved_is; answered = appends_nothing x; are_saved = All-nil (λ line. line.told ≤ game.acknowledged b) }

    pub input_refused : (has_failed : Type 0) (why : F) → game.refuses a b input why → game.acknowledged b ≡ game.acknowledged a → (game.told_as why ≡ Output → ⊥) → StopsByInputs game a b x x has_failed (input ∷ []) why
    input_refused has_failed why refused same other = record {
      stops = at_input refused same;
      told = told_nothing (game.told_as why) (game.acknowledged b) (lines_of_inputs (count_of game a) (game.unsaved a) (input ∷ [])) x other;
      output = λ is. absurd (other is);
    }

    -- where no save is due behind it
    pub given_alone : IsGiven game a b input → (game.unsaved a + 1 ≡ 3200 → ⊥) → AdvancesByInputs game a b x x (input ∷ [])
    given_alone one less =
        let none = not_due (game.unsaved a) (count_of game a + 1) less in
        makes_by game refl none.0 none.1 (given_so one)

    -- where one is due
    module _ (c : G) (y : Option (List ℕ)) (one : IsGiven game a b input) (due : game.unsaved a + 1 ≡ 3200) where
      count_is : count_of game b ≡ count_of game a + 1
      count_is = omega (arith, one.acknowledged_is, one.unsaved_is)

      line_is : saved_line (count_of game b) ∷ [] ≡ lines_of_inputs (count_of game a) (game.unsaved a) (input ∷ [])
      line_is = ap (λ (n : ℕ). saved_line n ∷ []) count_is ∙ (is_due (game.unsaved a) (count_of game a + 1) due).1

      pub given_saved : AdvancesTelling game b c x y [] 0 (saved_line (count_of game b) ∷ []) → AdvancesByInputs game a c x y (input ∷ [])
      given_saved saved = makes_by game refl (is_due (game.unsaved a) (count_of game a + 1) due).0 line_is (makes_then game (given_so one) saved)

      pub given_not_saved : (has_failed : Type 0) (why : F) → StopsTelling game b c x y has_failed [] (saved_line (count_of game b) ∷ []) why → StopsByInputs game a c x y has_failed (input ∷ []) why
      given_not_saved has_failed why stop = stops_by game refl line_is (stops_then game (given_so one) stop)
