-- What a stream answers to its orders.
use Rattle.std.specs.Prelude.{◌==◌, ◌+◌, ℕ, List, [], ◌∷◌, ◌++◌, codes, length, if◌then◌else◌}
use Rattle.machine.specs.Machine.{MachineState, after}
use Rattle.machine.specs.Machine.{Input, State as StateInput}
use Rattle.script.specs.declared.moves.Move.TheVariants.{Save}
use Rattle.session.specs.Stands.{Position}
use Rattle.playing.specs.Report.{line_due, unsaved_after, unsaved_behind_move, lines_of_move}
use Rattle.playing.specs.Lines.{Line, resumed_line}
use Rattle.script.specs.Inputs.{inputs_of_move}
use Rattle.machine_lines.specs.Looks.{look_text}
use Rattle.machine_lines.specs.Texts.{count_line}
use Rattle.streaming.specs.Orders.{Deed, Does, GoesOnWith}
use Rattle.streaming.specs.declared.order.Order.{Order}
use Rattle.streaming.specs.declared.order.Order.TheVariants.{Make, Look, Keep, Back}

-- ---- the inputs

abbrev pub inputs_of_order : Order → List Input
inputs_of_order (Make move) = inputs_of_move move
inputs_of_order order = []

abbrev pub inputs_of_deed : Deed → List Input
inputs_of_deed (Does order) = inputs_of_order order
inputs_of_deed (GoesOnWith order machine) = StateInput machine ∷ []

abbrev pub inputs_of_deeds : List Deed → List Input
inputs_of_deeds [] = []
inputs_of_deeds (deed ∷ deeds) = inputs_of_deed deed ++ inputs_of_deeds deeds

-- ---- how many are unsaved

abbrev pub unsaved_behind_order : ℕ → Order → ℕ
unsaved_behind_order unsaved (Make move) = unsaved_behind_move unsaved move
unsaved_behind_order unsaved order = unsaved

abbrev pub unsaved_behind_deed : ℕ → Deed → ℕ
unsaved_behind_deed unsaved (Does order) = unsaved_behind_order unsaved order
unsaved_behind_deed unsaved (GoesOnWith order machine) = unsaved_after unsaved

abbrev pub unsaved_behind_deeds : ℕ → List Deed → ℕ
unsaved_behind_deeds unsaved [] = unsaved
unsaved_behind_deeds unsaved (deed ∷ deeds) = unsaved_behind_deeds (unsaved_behind_deed unsaved deed) deeds

-- ---- the lines

-- an answer tells of no input that it is saved
abbrev pub answer : List ℕ → Line
answer text = record { told = 0; text = text }

-- From a machine and a count of inputs of which so many are unsaved: the lines of the saves that are due, or what the order asks for.
abbrev pub lines_of_order : MachineState → (count unsaved : ℕ) → Order → List Line
lines_of_order machine count unsaved (Make move) = lines_of_move count unsaved move
lines_of_order machine count unsaved (Look look) = answer (look_text look machine) ∷ []
lines_of_order machine count unsaved (Keep k) = answer (count_line (codes "kept") k) ∷ []
lines_of_order machine count unsaved order = []

-- what is answered where the game went on with another machine
abbrev pub other_text : Order → List ℕ
other_text (Back k) = count_line (codes "back") k
other_text order = codes "restored\n"

abbrev pub lines_of_deed : MachineState → (count unsaved : ℕ) → Deed → List Line
lines_of_deed machine count unsaved (Does order) = lines_of_order machine count unsaved order
lines_of_deed machine count unsaved (GoesOnWith order other) = line_due unsaved (count + 1) ++ answer (other_text order) ∷ []

abbrev pub lines_of_deeds : MachineState → (count unsaved : ℕ) → List Deed → List Line
lines_of_deeds machine count unsaved [] = []
lines_of_deeds machine count unsaved (deed ∷ deeds) =
    lines_of_deed machine count unsaved deed
    ++ lines_of_deeds (after machine (inputs_of_deed deed)) (count + length (inputs_of_deed deed)) (unsaved_behind_deed unsaved deed) deeds

-- at the end one save more, if any is unsaved
abbrev pub last_deeds : ℕ → List Deed
last_deeds unsaved = if unsaved == 0 then [] else Does (Make Save) ∷ []

abbrev pub ended : ℕ → List Deed → List Deed
ended unsaved deeds = deeds ++ last_deeds (unsaved_behind_deeds unsaved deeds)

-- what a stream that is taken up there writes
abbrev pub stream_lines : Position → List Deed → List Line
stream_lines from deeds = resumed_line from.count ∷ lines_of_deeds from.machine from.count 0 (ended 0 deeds)
