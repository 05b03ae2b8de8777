-- What is made one after another.
use Rattle.std.proofs.Common.{◌≡◌, ℕ, ◌+◌, ◌≤◌, List, [], ◌∷◌, ◌++◌, length, Option, refl, sym, ap, ◌∙◌, subst, arith}
use Rattle.std.specs.List.{All}
use Rattle.std.specs.Io.KnownBytes.{Appends}
use Rattle.std.proofs.lemmas.List.Elements.{All-nil, All-cons, All-append, All-weaker}
use Rattle.exact_text.specs.Written.{AppendsProperPrefix}
use Rattle.exact_text.proofs.Writes.{appends_nothing}
use Rattle.machine.specs.Machine.{MachineState, Input, after}
use Rattle.session.specs.declared.error.SessionError.{SessionError}
use Rattle.session.specs.declared.error.SessionError.TheVariants.{Output}
use Rattle.session.proofs.StandsLaws.{after_append, after_none, after_one}
use Rattle.playing.specs.Report.{HasTold}
use Rattle.playing.specs.Lines.{Line, texts}
use Rattle.playing.specs.Making.{count_of, Advances, Stops, AdvancesTelling, StopsTelling}
use Rattle.playing.specs.Making.Advances.{stays, by_input, by_save}
use Rattle.playing.specs.Making.Stops.{at_input, at_save, at_line, past_input, past_save}
use Rattle.playing.specs.declared.playable.Playable.{Ghosts}
use Rattle.playing.proofs.ReportLaws.{appends_lines, appends_line}
use Rattle.playing.proofs.Telling.{told_more, told_then, told_part}

module _ {G F : Type 0} (game : Ghosts G F) where
  -- ---- what is counted, and where the machine is

  pub advances_count : {a b : G} {inputs : List Input} → Advances game a b inputs → count_of game b ≡ count_of game a + length inputs
  advances_count (stays a) = omega arith
  advances_count (by_input one rest) = let then = advances_count rest in omega (arith, then, one.acknowledged_is, one.unsaved_is)
  advances_count (by_save one rest) = let then = advances_count rest in omega (arith, then, one.acknowledged_is, one.unsaved_is)

  pub advances_machine : {a b : G} {inputs : List Input} → Advances game a b inputs → game.machine b ≡ after (game.machine a) inputs
  advances_machine (stays a) = sym (after_none (game.machine a))
  advances_machine {a} (by_input {input = input} {more = more} one rest) =
      advances_machine rest
      ∙ ap (λ (m : MachineState). after m more) (one.machine_is ∙ sym (after_one (game.machine a) input))
      ∙ after_append (game.machine a) (input ∷ []) more
  advances_machine (by_save {more = more} one rest) = advances_machine rest ∙ ap (λ (m : MachineState). after m more) one.machine_is

  -- the cartridge stays
  pub advances_rom : {a b : G} {inputs : List Input} → Advances game a b inputs → game.rom b ≡ game.rom a
  advances_rom (stays a) = refl
  advances_rom (by_input one rest) = advances_rom rest ∙ one.rom_is
  advances_rom (by_save one rest) = advances_rom rest ∙ one.rom_is

  pub advances_later : {a b : G} {inputs : List Input} → Advances game a b inputs → game.acknowledged a ≤ game.acknowledged b
  advances_later (stays a) = omega arith
  advances_later (by_input one rest) = let then = advances_later rest in omega (arith, then, one.acknowledged_is)
  advances_later (by_save one rest) = let then = advances_later rest in omega (arith, then, one.acknowledged_is)

  pub stops_later : {a b : G} {inputs : List Input} {why : F} → Stops game a b inputs why → game.acknowledged a ≤ game.acknowledged b
  stops_later (at_input refused same) = omega (arith, same)
  stops_later (at_save failed same) = omega (arith, same)
  stops_later (at_line a more) = omega arith
  stops_later (past_input one rest) = let then = stops_later rest in omega (arith, then, one.acknowledged_is)
  stops_later (past_save one rest) = let then = stops_later rest in omega (arith, then, one.acknowledged_is)

  -- ---- one behind the other

  pub advances_then : {a b c : G} {first second : List Input} → Advances game a b first → Advances game b c second → Advances game a c (first ++ second)
  advances_then (stays a) two = two
  advances_then (by_input one rest) two = by_input one (advances_then rest two)
  advances_then (by_save one rest) two = by_save one (advances_then rest two)

  pub stops_behind : {a b c : G} {first second : List Input} {why : F} → Advances game a b first → Stops game b c second why → Stops game a c (first ++ second) why
  stops_behind (stays a) two = two
  stops_behind (by_input one rest) two = past_input one (stops_behind rest two)
  stops_behind (by_save one rest) two = past_save one (stops_behind rest two)

  -- a stop before more
  pub stops_more : {a b : G} {first : List Input} {why : F} (second : List Input) → Stops game a b first why → Stops game a b (first ++ second) why
  stops_more second (at_input refused same) = at_input refused same
  stops_more second (at_save failed same) = at_save failed same
  stops_more second (at_line a more) = at_line a (more ++ second)
  stops_more second (past_input one rest) = past_input one (stops_more second rest)
  stops_more second (past_save one rest) = past_save one (stops_more second rest)

  -- ---- with a report, in other words

  pub makes_by : {a b : G} {x y : Option (List ℕ)} {inputs inputs' : List Input} {unsaved unsaved' : ℕ} {lines lines' : List Line} → inputs ≡ inputs' → unsaved ≡ unsaved' → lines ≡ lines'
      → AdvancesTelling game a b x y inputs unsaved lines → AdvancesTelling game a b x y inputs' unsaved' lines'
  makes_by {a} {b} {x} {y} {inputs} {inputs'} {unsaved} {unsaved'} {lines} {lines'} given left text made =
      subst (AdvancesTelling game a b x y inputs' unsaved') text (subst (λ (n : ℕ). AdvancesTelling game a b x y inputs' n lines) left (subst (λ (l : List Input). AdvancesTelling game a b x y l unsaved lines) given made))

  pub stops_by : {a b : G} {x y : Option (List ℕ)} {has_failed : Type 0} {inputs inputs' : List Input} {lines lines' : List Line} {why : F} → inputs ≡ inputs' → lines ≡ lines'
      → StopsTelling game a b x y has_failed inputs lines why → StopsTelling game a b x y has_failed inputs' lines' why
  stops_by {a} {b} {x} {y} {has_failed} {inputs} {inputs'} {lines} {lines'} {why} given text stop =
      subst (λ (l : List Line). StopsTelling game a b x y has_failed inputs' l why) text (subst (λ (l : List Input). StopsTelling game a b x y has_failed l lines why) given stop)

  -- ---- where a game stays

  module _ (a : G) (x y : Option (List ℕ)) where
    makes_here : (lines : List Line) → Appends x y (texts lines) → All (λ line. line.told ≤ game.acknowledged a) lines → AdvancesTelling game a a x y [] (game.unsaved a) lines
    makes_here lines written saved = record { advances = stays a; unsaved_is = refl; answered = written; are_saved = saved }

    -- a line that tells no more than is saved
    pub makes_line : (line : Line) → line.told ≤ game.acknowledged a → Appends x y line.text → AdvancesTelling game a a x y [] (game.unsaved a) (line ∷ [])
    makes_line line saved written =
        makes_here (line ∷ []) (appends_line x y line written) (All-cons (λ line. line.told ≤ game.acknowledged a) line [] saved (All-nil (λ line. line.told ≤ game.acknowledged a)))

    -- one that could not be written
    pub stops_at_line : {has_failed : Type 0} (line : Line) → game.told_as game.unwritten ≡ Output → has_failed → AppendsProperPrefix x y line.text → StopsTelling game a a x y has_failed [] (line ∷ []) game.unwritten
    stops_at_line line is fails part = record {
      stops = at_line a [];
      told = subst (λ (why : SessionError). HasTold why (game.acknowledged a) (line ∷ []) x y) (sym is) (told_part (game.acknowledged a) line [] x y part);
      output = λ is. fails;
    }

  pub makes_nothing : (a : G) (x : Option (List ℕ)) → AdvancesTelling game a a x x [] (game.unsaved a) []
  makes_nothing a x = makes_here a x x [] (appends_nothing x) (All-nil (λ line. line.told ≤ game.acknowledged a))

  -- ---- one behind the other

  module _ {a b c : G} {x y z : Option (List ℕ)} {first second : List Input} {these those : List Line} where
    pub makes_then : {left unsaved : ℕ} → AdvancesTelling game a b x y first left these → AdvancesTelling game b c y z second unsaved those → AdvancesTelling game a c x z (first ++ second) unsaved (these ++ those)
    makes_then one two =
        let later = advances_later two.advances in
        record {
          advances = advances_then one.advances two.advances;
          unsaved_is = two.unsaved_is;
          answered = appends_lines x y z these those one.answered two.answered;
          are_saved =
              All-append (λ line. line.told ≤ game.acknowledged c) these those
              (All-weaker (λ line. line.told ≤ game.acknowledged b) (λ line. line.told ≤ game.acknowledged c) (λ line (within : line.told ≤ game.acknowledged b). omega (arith, within, later)) these one.are_saved) two.are_saved;
        }

    pub stops_then : {left : ℕ} {has_failed : Type 0} {why : F} → AdvancesTelling game a b x y first left these → StopsTelling game b c y z has_failed second those why → StopsTelling game a c x z has_failed (first ++ second) (these ++ those) why
    stops_then {why = why} one two = record {
      stops = stops_behind one.advances two.stops;
      told = told_then (game.told_as why) (game.acknowledged b) (game.acknowledged c) these those x y z one.answered one.are_saved (stops_later two.stops) two.told;
      output = two.output;
    }

  -- a stop before more
  pub stops_before : {a b : G} {x y : Option (List ℕ)} {has_failed : Type 0} {first : List Input} {these : List Line} {why : F} (second : List Input) (those : List Line) → StopsTelling game a b x y has_failed first these why
      → StopsTelling game a b x y has_failed (first ++ second) (these ++ those) why
  stops_before {a} {b} {x} {y} {these = these} {why = why} second those stop = record {
    stops = stops_more second stop.stops;
    told = told_more (game.told_as why) (game.acknowledged b) these those x y stop.told;
    output = stop.output;
  }

-- ---- what is asked for one after another, as inputs, moves or orders

-- what of these is given, how many inputs are unsaved behind them, and what is written for them
pub record Asked (T : Type 0) : Type 0 where
  pub inputs : List T → List Input
  pub unsaved : ℕ → List T → ℕ
  pub lines : MachineState → (count unsaved : ℕ) → List T → List Line
  pub inputs_append : (first second : List T) → inputs (first ++ second) ≡ inputs first ++ inputs second
  pub unsaved_append : (left : ℕ) (first second : List T) → unsaved left (first ++ second) ≡ unsaved (unsaved left first) second
  pub lines_append : (machine : MachineState) (count left : ℕ) (first second : List T)
      → lines machine count left (first ++ second) ≡ lines machine count left first ++ lines (after machine (inputs first)) (count + length (inputs first)) (unsaved left first) second

module _ {G F T : Type 0} (game : Ghosts G F) (asked : Asked T) where
  abbrev lines_from : G → List T → List Line
  lines_from a things = asked.lines (game.machine a) (count_of game a) (game.unsaved a) things

  abbrev Does : (a b : G) → (x y : Option (List ℕ)) → List T → Type 0
  Does a b x y things = AdvancesTelling game a b x y (asked.inputs things) (asked.unsaved (game.unsaved a) things) (lines_from a things)

  abbrev StopsByDeeds : (a b : G) → (x y : Option (List ℕ)) → (has_failed : Type 0) → List T → F → Type 0
  StopsByDeeds a b x y has_failed things why = StopsTelling game a b x y has_failed (asked.inputs things) (lines_from a things) why

  -- what is written for the second ones from there
  lines_then : (a b : G) (x y : Option (List ℕ)) (first second : List T) → Does a b x y first → lines_from a first ++ lines_from b second ≡ lines_from a (first ++ second)
  lines_then a b x y first second one =
      let these = lines_from a first in
      let m = game.machine a in
      ap (λ (n : MachineState). these ++ asked.lines n (count_of game b) (game.unsaved b) second) (advances_machine game one.advances)
      ∙ ap (λ (n : ℕ). these ++ asked.lines (after m (asked.inputs first)) n (game.unsaved b) second) (advances_count game one.advances)
      ∙ ap (λ (n : ℕ). these ++ asked.lines (after m (asked.inputs first)) (count_of game a + length (asked.inputs first)) n second) one.unsaved_is
      ∙ sym (asked.lines_append m (count_of game a) (game.unsaved a) first second)

  pub does_then : (a b c : G) (x y z : Option (List ℕ)) (first second : List T) → Does a b x y first → Does b c y z second → Does a c x z (first ++ second)
  does_then a b c x y z first second one two =
      makes_by game (sym (asked.inputs_append first second))
      (ap (λ (n : ℕ). asked.unsaved n second) one.unsaved_is ∙ sym (asked.unsaved_append (game.unsaved a) first second))
      (lines_then a b x y first second one) (makes_then game one two)

  pub stops_among_more : (a b c : G) (x y z : Option (List ℕ)) (has_failed : Type 0) (first second : List T) (why : F) → Does a b x y first → StopsByDeeds b c y z has_failed second why → StopsByDeeds a c x z has_failed (first ++ second) why
  stops_among_more a b c x y z has_failed first second why one two = stops_by game (sym (asked.inputs_append first second)) (lines_then a b x y first second one) (stops_then game one two)

  pub stops_before_more : (a b : G) (x y : Option (List ℕ)) (has_failed : Type 0) (first second : List T) (why : F) → StopsByDeeds a b x y has_failed first why → StopsByDeeds a b x y has_failed (first ++ second) why
  stops_before_more a b x y has_failed first second why stop =
      let m = game.machine a in
      stops_by game (sym (asked.inputs_append first second)) (sym (asked.lines_append m (count_of game a) (game.unsaved a) first second))
      (stops_before game (asked.inputs second) (asked.lines (after m (asked.inputs first)) (count_of game a + length (asked.inputs first)) (asked.unsaved (game.unsaved a) first) second) stop)
