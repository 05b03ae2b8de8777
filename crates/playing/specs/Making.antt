-- What moves that are made leave of a game and of its report.
use Rattle.std.specs.Prelude.{◌≡◌, ◌≢◌, ◌≤◌, ◌+◌, ◌-◌, ◌^◌, ℕ, List, [], ◌∷◌, ◌++◌, Option, All}
use Rattle.std.specs.Io.KnownBytes.{Appends}
use Rattle.machine.specs.Machine.{Input, applied}
use Rattle.script.specs.declared.moves.Move.{Move}
use Rattle.script.specs.declared.moves.Move.TheVariants.{Power}
use Rattle.session.specs.declared.error.SessionError.TheVariants.{Output}
use Rattle.playing.specs.Report.{unsaved_behind, lines_of_inputs, unsaved_behind_moves, lines_of_moves, HasTold}
use Rattle.playing.specs.Lines.{Line, resumed_line, texts}
use Rattle.script.specs.Inputs.{inputs_of_moves}
use Rattle.playing.specs.declared.playable.Playable.{Ghosts}

module _ {G F : Type 0} (game : Ghosts G F) where
  abbrev pub count_of : G → ℕ
  count_of a = game.acknowledged a + game.unsaved a

  -- ---- one input, and one save

  pub record IsGiven (a b : G) (input : Input) : Type 0 where
    pub gives : game.gives a b input
    pub machine_is : game.machine b ≡ applied input (game.machine a)
    pub acknowledged_is : game.acknowledged b ≡ game.acknowledged a
    pub unsaved_is : game.unsaved b ≡ game.unsaved a + 1
    pub rom_is : game.rom b ≡ game.rom a

  pub record IsSaved (a b : G) : Type 0 where
    pub saves : game.saves a b
    pub machine_is : game.machine b ≡ game.machine a
    pub acknowledged_is : game.acknowledged b ≡ count_of a
    pub unsaved_is : game.unsaved b ≡ 0
    pub rom_is : game.rom b ≡ game.rom a

  -- ---- several

  -- these inputs were given one after the other, with some saves between them
  pub data Advances : G → G → List Input → Type 0 where
    stays : (a : G) → Advances a a []
    by_input : {a b c : G} {input : Input} {more : List Input} → IsGiven a b input → Advances b c more → Advances a c (input ∷ more)
    by_save : {a b c : G} {more : List Input} → IsSaved a b → Advances b c more → Advances a c more

  -- an input among these, a save or a line was refused
  pub data Stops : G → G → List Input → F → Type 0 where
    at_input : {a b : G} {input : Input} {more : List Input} {why : F} → game.refuses a b input why → game.acknowledged b ≡ game.acknowledged a → Stops a b (input ∷ more) why
    at_save : {a b : G} {more : List Input} {why : F} → game.fails a b why → game.acknowledged b ≡ game.acknowledged a → Stops a b more why
    at_line : (a : G) (more : List Input) → Stops a a more game.unwritten
    past_input : {a b c : G} {input : Input} {more : List Input} {why : F} → IsGiven a b input → Stops b c more why → Stops a c (input ∷ more) why
    past_save : {a b c : G} {more : List Input} {why : F} → IsSaved a b → Stops b c more why → Stops a c more why

  -- ---- with a report

  -- These inputs were given, so many are unsaved after them, and these lines were written: what was known of a report before them, and since.
  pub record AdvancesTelling (old new : G) (before since : Option (List ℕ)) (inputs : List Input) (unsaved : ℕ) (lines : List Line) : Type 0 where
    pub advances : Advances old new inputs
    pub unsaved_is : game.unsaved new ≡ unsaved
    -- the lines were written whole, and nothing else
    pub answered : Appends before since (texts lines)
    -- each count that they tell is saved
    pub are_saved : All (λ line. line.told ≤ game.acknowledged new) lines

  -- One of these inputs, a save among them or a line was refused, after those before it.
  pub record StopsTelling (old new : G) (before since : Option (List ℕ)) (has_failed : Type 0) (inputs : List Input) (lines : List Line) (why : F) : Type 0 where
    pub stops : Stops old new inputs why
    -- the first of the lines were written, each telling a count that is saved
    pub told : HasTold (game.told_as why) (game.acknowledged new) lines before since
    -- a line was refused only where one has failed
    pub output : game.told_as why ≡ Output → has_failed

  -- ---- by what was asked for

  -- these inputs were given, and each save was made and told that was due among them
  abbrev pub AdvancesByInputs : (old new : G) → (before since : Option (List ℕ)) → List Input → Type 0
  AdvancesByInputs old new before since inputs = AdvancesTelling old new before since inputs (unsaved_behind (game.unsaved old) inputs) (lines_of_inputs (count_of old) (game.unsaved old) inputs)

  abbrev pub StopsByInputs : (old new : G) → (before since : Option (List ℕ)) → (has_failed : Type 0) → List Input → F → Type 0
  StopsByInputs old new before since has_failed inputs why = StopsTelling old new before since has_failed inputs (lines_of_inputs (count_of old) (game.unsaved old) inputs) why

  -- these moves were made
  abbrev pub AdvancesByMoves : (old new : G) → (before since : Option (List ℕ)) → List Move → Type 0
  AdvancesByMoves old new before since moves =
      AdvancesTelling old new before since (inputs_of_moves moves) (unsaved_behind_moves (game.unsaved old) moves) (lines_of_moves (count_of old) (game.unsaved old) moves)

  abbrev pub StopsByMoves : (old new : G) → (before since : Option (List ℕ)) → (has_failed : Type 0) → List Move → F → Type 0
  StopsByMoves old new before since has_failed moves why = StopsTelling old new before since has_failed (inputs_of_moves moves) (lines_of_moves (count_of old) (game.unsaved old) moves) why

  -- the count of all inputs is not the greatest: one more can be counted
  abbrev pub HasRoom : G → Type 0
  HasRoom a = count_of a ≢ 2 ^ 64 - 1

  -- Of these moves those before a power switch were made, and for it there was no memory: nothing else was done or written.
  pub record FindsNoMemory (old new : G) (before since : Option (List ℕ)) (moves : List Move) : Type 0 where
    pub done : List Move
    pub left : List Move
    pub moves_are : moves ≡ done ++ Power ∷ left
    pub made : AdvancesByMoves old new before since done
    pub room : HasRoom new

  -- of a play that was taken up, those before a power switch were made and told, and for it there was no memory
  pub record PlaysToMemory (old new : G) (before since : Option (List ℕ)) (moves : List Move) : Type 0 where
    pub done : List Move
    pub left : List Move
    pub moves_are : moves ≡ done ++ Power ∷ left
    pub made : AdvancesTelling old new before since (inputs_of_moves done) (unsaved_behind_moves 0 done) (resumed_line (game.acknowledged old) ∷ lines_of_moves (game.acknowledged old) 0 done)
    pub room : HasRoom new
