-- Inputs and moves, one after another.
use Rattle.std.proofs.Common.{◌≡◌, ℕ, zero, suc, ◌+◌, ◌-◌, ◌<◌, List, [], ◌∷◌, ◌++◌, length, take, drop, replicate, get_or, Option, refl, sym, ap, ◌∙◌, subst, arith, append-nil, append_assoc}
use Rattle.std.proofs.Math.Seq.{take-suc}
use Rattle.std.proofs.lemmas.List.{replicate-append-replicate}
use Rattle.machine.specs.Machine.{Input}
use Rattle.script.specs.declared.moves.Move.{Move}
use Rattle.script.specs.declared.moves.Move.TheVariants.{Power}
use Rattle.playing.specs.Making.{count_of, AdvancesTelling, StopsTelling, AdvancesByInputs, StopsByInputs, AdvancesByMoves, StopsByMoves, HasRoom, FindsNoMemory}
use Rattle.playing.specs.Report.{unsaved_behind, lines_of_inputs, unsaved_behind_move, unsaved_behind_moves, lines_of_move, lines_of_moves}
use Rattle.script.specs.Inputs.{inputs_of_move, inputs_of_moves}
use Rattle.playing.specs.declared.playable.Playable.{Ghosts}
use Rattle.playing.proofs.ReportLaws.{inputs_append, unsaved_append, lines_append, unsaved_moves, lines_moves}
use Rattle.playing.proofs.Making.{Asked, makes_by, stops_by, does_then, stops_among_more, stops_before_more}

-- ---- inputs

abbrev inputs : Asked Input
inputs = record {
  inputs = λ given. given;
  unsaved = unsaved_behind;
  lines = λ machine. lines_of_inputs;
  inputs_append = λ first second. refl;
  unsaved_append = unsaved_append;
  lines_append = λ machine. lines_append;
}

one_frame_more : (input : Input) (i : ℕ) → replicate i input ++ input ∷ [] ≡ replicate (i + 1) input
one_frame_more input i = replicate-append-replicate i 1 input

all_frames : (input : Input) (i n : ℕ) → i < n → (replicate i input ++ input ∷ []) ++ replicate (n - (i + 1)) input ≡ replicate n input
all_frames input i n less =
    let e : i + 1 + (n - (i + 1)) ≡ n = omega arith in
    ap (λ (l : List Input). l ++ replicate (n - (i + 1)) input) (one_frame_more input i) ∙ replicate-append-replicate (i + 1) (n - (i + 1)) input ∙ ap (λ (k : ℕ). replicate k input) e

module _ {G F : Type 0} (game : Ghosts G F) (a b c : G) (x y z : Option (List ℕ)) (input : Input) (i : ℕ) (so_far : AdvancesByInputs game a b x y (replicate i input)) where
  pub frame_given : AdvancesByInputs game b c y z (input ∷ []) → AdvancesByInputs game a c x z (replicate (i + 1) input)
  frame_given one = subst (AdvancesByInputs game a c x z) (one_frame_more input i) (does_then game inputs a b c x y z (replicate i input) (input ∷ []) so_far one)

  pub frame_stopped : (has_failed : Type 0) (why : F) (n : ℕ) → i < n → StopsByInputs game b c y z has_failed (input ∷ []) why → StopsByInputs game a c x z has_failed (replicate n input) why
  frame_stopped has_failed why n less stop =
      subst (λ (l : List Input). StopsByInputs game a c x z has_failed l why) (all_frames input i n less)
      (stops_before_more game inputs a c x z has_failed (replicate i input ++ input ∷ []) (replicate (n - (i + 1)) input) why (stops_among_more game inputs a b c x y z has_failed (replicate i input) (input ∷ []) why so_far stop))

-- ---- moves

abbrev moves_asked : Asked Move
moves_asked = record {
  inputs = inputs_of_moves;
  unsaved = unsaved_behind_moves;
  lines = λ machine. lines_of_moves;
  inputs_append = inputs_append;
  unsaved_append = unsaved_moves;
  lines_append = λ machine. lines_moves;
}

-- one move
module _ {G F : Type 0} (game : Ghosts G F) {a b : G} {x y : Option (List ℕ)} (m : Move) where
  pub move_made : AdvancesTelling game a b x y (inputs_of_move m) (unsaved_behind_move (game.unsaved a) m) (lines_of_move (count_of game a) (game.unsaved a) m) → AdvancesByMoves game a b x y (m ∷ [])
  move_made made = makes_by game (sym (append-nil (inputs_of_move m))) refl (sym (append-nil (lines_of_move (count_of game a) (game.unsaved a) m))) made

  pub move_stopped : {has_failed : Type 0} {why : F} → StopsTelling game a b x y has_failed (inputs_of_move m) (lines_of_move (count_of game a) (game.unsaved a) m) why → StopsByMoves game a b x y has_failed (m ∷ []) why
  move_stopped stop = stops_by game (sym (append-nil (inputs_of_move m))) (sym (append-nil (lines_of_move (count_of game a) (game.unsaved a) m))) stop

split : (moves : List Move) (i : ℕ) → take i moves ++ drop i moves ≡ moves
split moves zero = refl
split [] (suc i) = refl
split (m ∷ moves) (suc i) = ap (λ (l : List Move). m ∷ l) (split moves i)

one_move_more : (moves : List Move) (i : ℕ) (d : Move) → i < length moves → take i moves ++ get_or moves i d ∷ [] ≡ take (i + 1) moves
one_move_more moves i d less = let next : suc i ≡ i + 1 = omega arith in sym (take-suc moves i d less) ∙ ap (λ (k : ℕ). take k moves) next

all_moves : (moves : List Move) (i : ℕ) (d : Move) → i < length moves → (take i moves ++ get_or moves i d ∷ []) ++ drop (i + 1) moves ≡ moves
all_moves moves i d less = ap (λ (l : List Move). l ++ drop (i + 1) moves) (one_move_more moves i d less) ∙ split moves (i + 1)

module _ {G F : Type 0} (game : Ghosts G F) (a b c : G) (x y z : Option (List ℕ)) (moves : List Move) (i : ℕ) (d : Move) (less : i < length moves) (so_far : AdvancesByMoves game a b x y (take i moves)) where
  pub next_made : AdvancesByMoves game b c y z (get_or moves i d ∷ []) → AdvancesByMoves game a c x z (take (i + 1) moves)
  next_made one = subst (AdvancesByMoves game a c x z) (one_move_more moves i d less) (does_then game moves_asked a b c x y z (take i moves) (get_or moves i d ∷ []) so_far one)

  pub next_stopped : (has_failed : Type 0) (why : F) → StopsByMoves game b c y z has_failed (get_or moves i d ∷ []) why → StopsByMoves game a c x z has_failed moves why
  next_stopped has_failed why stop =
      subst (λ (l : List Move). StopsByMoves game a c x z has_failed l why) (all_moves moves i d less)
      (stops_before_more game moves_asked a c x z has_failed (take i moves ++ get_or moves i d ∷ []) (drop (i + 1) moves) why (stops_among_more game moves_asked a b c x y z has_failed (take i moves) (get_or moves i d ∷ []) why so_far stop))

  -- there was no memory for it
  pub next_without_memory : get_or moves i d ≡ Power → c ≡ b → z ≡ y → HasRoom game b → FindsNoMemory game a c x z moves
  next_without_memory is same quiet room = record {
    done = take i moves;
    left = drop (i + 1) moves;
    moves_are =
        sym (all_moves moves i d less) ∙ append_assoc (take i moves) (get_or moves i d ∷ []) (drop (i + 1) moves)
        ∙ ap (λ (m : Move). take i moves ++ m ∷ drop (i + 1) moves) is;
    made = subst (λ (there : G). AdvancesByMoves game a there x z (take i moves)) (sym same) (subst (λ (o : Option (List ℕ)). AdvancesByMoves game a b x o (take i moves)) (sym quiet) so_far);
    room = subst (λ (there : G). HasRoom game there) (sym same) room;
  }
