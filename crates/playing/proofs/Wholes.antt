-- A whole play, from the line of the resume to the last save.
use Rattle.std.proofs.Common.{◌≡◌, ℕ, ◌+◌, List, [], ◌∷◌, ◌++◌, length, Option, refl, ap, ◌∙◌, subst, arith, append-nil}
use Rattle.std.specs.Io.KnownBytes.{Appends}
use Rattle.exact_text.specs.Written.{AppendsProperPrefix}
use Rattle.machine.specs.Machine.{Input}
use Rattle.script.specs.declared.moves.Move.{Move}
use Rattle.session.specs.declared.error.SessionError.TheVariants.{Output}
use Rattle.playing.specs.Making.{count_of, AdvancesTelling, StopsTelling, AdvancesByMoves, StopsByMoves, FindsNoMemory, PlaysToMemory}
use Rattle.playing.specs.Report.{unsaved_behind_moves, lines_of_moves, last_line, report_lines}
use Rattle.playing.specs.Lines.{Line, resumed_line}
use Rattle.script.specs.Inputs.{inputs_of_moves}
use Rattle.playing.specs.declared.playable.Playable.{Ghosts}
use Rattle.playing.proofs.Making.{advances_count, makes_by, makes_then, makes_line, stops_at_line, stops_before, stops_by, stops_then}

module _ {G F : Type 0} (game : Ghosts G F) (a : G) (x y : Option (List ℕ)) (all : ℕ) (all_is : all ≡ count_of game a) (none : game.unsaved a ≡ 0) where
  count_is : all ≡ game.acknowledged a
  count_is = omega (arith, all_is, none)

  pub resumed_made : Appends x y (resumed_line all).text → AdvancesTelling game a a x y [] (game.unsaved a) (resumed_line (game.acknowledged a) ∷ [])
  resumed_made written = makes_line game a x y (resumed_line (game.acknowledged a)) (omega arith) (subst (λ (n : ℕ). Appends x y (resumed_line n).text) count_is written)

  pub resumed_failed : {has_failed : Type 0} (inputs : List Input) (lines : List Line) → game.told_as game.unwritten ≡ Output → has_failed → AppendsProperPrefix x y (resumed_line all).text
      → StopsTelling game a a x y has_failed inputs (resumed_line (game.acknowledged a) ∷ lines) game.unwritten
  resumed_failed inputs lines is fails part =
      stops_before game inputs lines (stops_at_line game a x y (resumed_line (game.acknowledged a)) is fails (subst (λ (n : ℕ). AppendsProperPrefix x y (resumed_line n).text) count_is part))

module _ {G F : Type 0} (game : Ghosts G F) (a b : G) (x y z : Option (List ℕ)) (moves : List Move) (none : game.unsaved a ≡ 0) (resumed : AdvancesTelling game a a x y [] (game.unsaved a) (resumed_line (game.acknowledged a) ∷ [])) where
  abbrev first : ℕ
  first = game.acknowledged a

  -- what is written for the moves
  moves_lines : lines_of_moves (count_of game a) (game.unsaved a) moves ≡ lines_of_moves first 0 moves
  moves_lines =
      let all : count_of game a ≡ first = omega (arith, none) in
      ap (λ (n : ℕ). lines_of_moves n (game.unsaved a) moves) all ∙ ap (λ (n : ℕ). lines_of_moves first n moves) none

  -- they were refused
  pub play_stopped : (has_failed : Type 0) (why : F) → StopsByMoves game a b y z has_failed moves why → StopsTelling game a b x z has_failed (inputs_of_moves moves) (report_lines first moves) why
  play_stopped has_failed why stop =
      let last = last_line (first + length (inputs_of_moves moves)) (unsaved_behind_moves 0 moves) in
      stops_by game (append-nil (inputs_of_moves moves)) refl (stops_before game [] last (stops_by game refl (ap (λ (l : List Line). resumed_line first ∷ l) moves_lines) (stops_then game resumed stop)))

  -- they were made
  module _ (made : AdvancesByMoves game a b y z moves) where
    abbrev pub last_there : List Line
    last_there = last_line (count_of game b) (game.unsaved b)

    report_is : (resumed_line first ∷ []) ++ (lines_of_moves (count_of game a) (game.unsaved a) moves ++ last_there) ≡ report_lines first moves
    report_is =
        let all : count_of game b ≡ first + length (inputs_of_moves moves) = omega (arith, advances_count game made.advances, none) in
        let left : game.unsaved b ≡ unsaved_behind_moves 0 moves = made.unsaved_is ∙ ap (λ (n : ℕ). unsaved_behind_moves n moves) none in
        ap (λ (l : List Line). resumed_line first ∷ (l ++ last_there)) moves_lines
        ∙ ap (λ (n : ℕ). resumed_line first ∷ (lines_of_moves first 0 moves ++ last_line n (game.unsaved b))) all
        ∙ ap (λ (n : ℕ). resumed_line first ∷ (lines_of_moves first 0 moves ++ last_line (first + length (inputs_of_moves moves)) n)) left

    pub play_made : (c : G) (w : Option (List ℕ)) → AdvancesTelling game b c z w [] 0 last_there → AdvancesTelling game a c x w (inputs_of_moves moves) 0 (report_lines first moves)
    play_made c w last = makes_by game (append-nil (inputs_of_moves moves)) refl report_is (makes_then game resumed (makes_then game made last))

    -- and the save behind them was refused
    pub play_not_saved : (c : G) (w : Option (List ℕ)) (has_failed : Type 0) (why : F) → StopsTelling game b c z w has_failed [] last_there why → StopsTelling game a c x w has_failed (inputs_of_moves moves) (report_lines first moves) why
    play_not_saved c w has_failed why stop = stops_by game (append-nil (inputs_of_moves moves)) report_is (stops_then game resumed (stops_then game made stop))

  -- they were made up to a power switch for which there was no memory
  pub play_without_memory : FindsNoMemory game a b y z moves → PlaysToMemory game a b x z moves
  play_without_memory stop =
      let all : count_of game a ≡ first = omega (arith, none) in
      let lines_are : lines_of_moves (count_of game a) (game.unsaved a) stop.done ≡ lines_of_moves first 0 stop.done =
      ap (λ (n : ℕ). lines_of_moves n (game.unsaved a) stop.done) all ∙ ap (λ (n : ℕ). lines_of_moves first n stop.done) none in
      record {
        done = stop.done;
        left = stop.left;
        moves_are = stop.moves_are;
        made = makes_by game refl (ap (λ (n : ℕ). unsaved_behind_moves n stop.done) none) (ap (λ (l : List Line). resumed_line first ∷ l) lines_are) (makes_then game resumed stop.made);
        room = stop.room;
      }
