-- The inputs of moves: a save gives none.
use Rattle.std.specs.Prelude.{ℕ, List, [], ◌∷◌, ◌++◌, replicate}
use Rattle.machine.specs.Machine.{Input}
use Rattle.machine.specs.Machine.{Frame, Seconds as PassSeconds, Power as SwitchPower}
use Rattle.script.specs.declared.moves.Move.{Move}
use Rattle.script.specs.declared.moves.Move.TheVariants.{Frames, Seconds, Save, Power}

abbrev pub inputs_of_move : Move → List Input
inputs_of_move (Frames buttons times) = replicate times (Frame buttons)
inputs_of_move (Seconds n) = PassSeconds n ∷ []
inputs_of_move Save = []
inputs_of_move Power = SwitchPower ∷ []

abbrev pub inputs_of_moves : List Move → List Input
inputs_of_moves [] = []
inputs_of_moves (m ∷ moves) = inputs_of_move m ++ inputs_of_moves moves
