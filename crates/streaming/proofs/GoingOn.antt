-- An input, and then the answer that tells of it.
use Rattle.std.proofs.Common.{◌≡◌, ℕ, ◌+◌, List, [], ◌∷◌, ◌++◌, Option, refl, sym, ap, ◌∙◌, arith, append-nil}
use Rattle.std.specs.Io.KnownBytes.{Appends}
use Rattle.exact_text.specs.Written.{AppendsProperPrefix}
use Rattle.machine.specs.Machine.{MachineState, State}
use Rattle.session.specs.declared.error.SessionError.TheVariants.{Output}
use Rattle.playing.specs.Making.{count_of, AdvancesByInputs, StopsByInputs}
use Rattle.playing.specs.Report.{line_due}
use Rattle.playing.specs.Lines.{Line}
use Rattle.playing.specs.declared.playable.Playable.{Ghosts}
use Rattle.playing.proofs.Making.{makes_by, makes_line, makes_then, stops_at_line, stops_before, stops_by, stops_then}
use Rattle.streaming.specs.Orders.{GoesOnWith}
use Rattle.streaming.specs.Answers.{answer, other_text}
use Rattle.streaming.specs.Obeying.{AdvancesByDeeds, StopsByDeeds}
use Rattle.streaming.specs.declared.order.Order.{Order}

module _ {G F : Type 0} (game : Ghosts G F) (a b : G) (x y z : Option (List ℕ)) (order : Order) (m : MachineState) where
  abbrev due : List Line
  due = line_due (game.unsaved a) (count_of game a + 1)

  abbrev told : List Line
  told = answer (other_text order) ∷ []

  lines_are : (due ++ []) ++ told ≡ (due ++ told) ++ []
  lines_are = ap (λ (l : List Line). l ++ told) (append-nil due) ∙ sym (append-nil (due ++ told))

  pub goes_on : AdvancesByInputs game a b x y (State m ∷ []) → Appends y z (other_text order) → AdvancesByDeeds game a b x z (GoesOnWith order m ∷ [])
  goes_on made written = makes_by game refl made.unsaved_is lines_are (makes_then game made (makes_line game b y z (answer (other_text order)) (omega arith) written))

  pub goes_on_untold : {has_failed : Type 0} → AdvancesByInputs game a b x y (State m ∷ []) → game.told_as game.unwritten ≡ Output → has_failed → AppendsProperPrefix y z (other_text order)
      → StopsByDeeds game a b x z has_failed (GoesOnWith order m ∷ []) game.unwritten
  goes_on_untold made is fails part = stops_by game refl lines_are (stops_then game made (stops_at_line game b y z (answer (other_text order)) is fails part))

  pub goes_no_further : {has_failed : Type 0} (why : F) → StopsByInputs game a b x y has_failed (State m ∷ []) why → StopsByDeeds game a b x y has_failed (GoesOnWith order m ∷ []) why
  goes_no_further why stop = stops_by game refl lines_are (stops_before game [] told stop)
