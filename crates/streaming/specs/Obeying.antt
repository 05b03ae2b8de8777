-- What obeying orders leaves of a game.
use Rattle.std.specs.Prelude.{ℕ, List, ◌∷◌, Option}
use Rattle.input_lines.specs.Given.{Given, HasReadGiven}
use Rattle.machine_lines.specs.KeptStates.{KeptMachine}
use Rattle.playing.specs.Making.{count_of, AdvancesTelling, StopsTelling}
use Rattle.playing.specs.Lines.{Line, resumed_line}
use Rattle.playing.specs.declared.playable.Playable.{Ghosts}
use Rattle.streaming.specs.Orders.{Deed, asked}
use Rattle.streaming.specs.Reading.{Asks, AsksUpTo, ReadsTo}
use Rattle.streaming.specs.Answers.{inputs_of_deeds, unsaved_behind_deeds, lines_of_deeds, ended}
use Rattle.streaming.specs.declared.obeying.End.{End}

module _ {G F : Type 0} (game : Ghosts G F) where
  -- what is written for these from there
  abbrev pub answers_from : G → List Deed → List Line
  answers_from a deeds = lines_of_deeds (game.machine a) (count_of game a) (game.unsaved a) deeds

  -- these were done and answered
  abbrev pub AdvancesByDeeds : (old new : G) → (before since : Option (List ℕ)) → List Deed → Type 0
  AdvancesByDeeds old new before since deeds = AdvancesTelling game old new before since (inputs_of_deeds deeds) (unsaved_behind_deeds (game.unsaved old) deeds) (answers_from old deeds)

  -- one of these was refused, and those before it were done
  abbrev pub StopsByDeeds : (old new : G) → (before since : Option (List ℕ)) → (has_failed : Type 0) → List Deed → F → Type 0
  StopsByDeeds old new before since has_failed deeds why = StopsTelling game old new before since has_failed (inputs_of_deeds deeds) (answers_from old deeds) why

  -- ---- with the lines that were read

  pub record AdvancesByLines (old new : G) (before_in since_in before since : Option (List ℕ)) (end : End) : Type 0 where
    pub lines : List Given
    pub deeds : List Deed
    pub kept : List KeptMachine
    pub asks : Asks game.takes_states (game.rom old) (game.machine old) lines deeds kept
    pub read : ReadsTo game.takes_states (game.rom old) kept end lines before_in since_in
    pub obeys : AdvancesByDeeds old new before since deeds

  pub record StopsByLines (old new : G) (before_in since_in before since : Option (List ℕ)) (has_failed : Type 0) (why : F) : Type 0 where
    pub lines : List Given
    pub deeds : List Deed
    pub asks : AsksUpTo game.takes_states (game.rom old) (game.machine old) lines deeds
    pub more : List ℕ
    pub read : HasReadGiven (asked game.takes_states) lines more before_in since_in
    pub stops : StopsByDeeds old new before since has_failed deeds why

  -- ---- with the line of the resume, and the save at the end

  -- what is then written
  abbrev pub stream_from : G → List Deed → List Line
  stream_from a deeds = resumed_line (game.acknowledged a) ∷ answers_from a (ended (game.unsaved a) deeds)

  pub record AdvancesByStream (old new : G) (before_in since_in before since : Option (List ℕ)) (end : End) : Type 0 where
    pub lines : List Given
    pub deeds : List Deed
    pub kept : List KeptMachine
    pub asks : Asks game.takes_states (game.rom old) (game.machine old) lines deeds kept
    pub read : ReadsTo game.takes_states (game.rom old) kept end lines before_in since_in
    pub makes : AdvancesTelling game old new before since (inputs_of_deeds deeds) 0 (stream_from old deeds)

  pub record StopsByStream (old new : G) (before_in since_in before since : Option (List ℕ)) (has_failed : Type 0) (why : F) : Type 0 where
    pub lines : List Given
    pub deeds : List Deed
    pub asks : AsksUpTo game.takes_states (game.rom old) (game.machine old) lines deeds
    pub more : List ℕ
    pub read : HasReadGiven (asked game.takes_states) lines more before_in since_in
    pub stops : StopsTelling game old new before since has_failed (inputs_of_deeds deeds) (stream_from old deeds) why
