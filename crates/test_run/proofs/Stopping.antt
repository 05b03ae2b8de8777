-- Moves and tests that stop.
use Rattle.std.proofs.Common.{ℕ, ◌<◌, List, [], ◌++◌, length, take, get_or, Option}
use Rattle.exact_text.proofs.Writes.{prefix_of_longer}
use Rattle.machine.specs.Machine.{Input, MachineState}
use Rattle.script.specs.declared.moves.Move.{Move}
use Rattle.test_run.specs.declared.run.Progress.{Progress}
use Rattle.test_run.specs.declared.run.Stop.{Stop}
use Rattle.test_run.specs.declared.run.Stop.TheVariants.{Output, Memory}
use Rattle.test_run.specs.declared.run.Went.TheVariants.{On}
use Rattle.script.specs.Inputs.{inputs_of_moves}
use Rattle.test_run.specs.Tested.{Tested, tested}
use Rattle.test_run.specs.Text.{last_lines, line_end, test_text}
use Rattle.test_run.specs.Playing.{HasReached, IsMoveStop, IsMovesStop, IsTestStop}
use Rattle.test_run.proofs.Reaching.{move_failed, move_without_memory}

pub move_stopped : (limit : ℕ) (moves : List Move) (i : ℕ) (d : Move) → i < length moves → (machine m : MachineState) (old mid new : Progress) (a b c : Option (List ℕ))
    → HasReached limit (inputs_of_moves (take i moves)) [] machine old mid a b (On m) → (why : Stop) → IsMoveStop limit (get_or moves i d) m mid b c why → IsMovesStop limit moves machine old a c why
move_stopped limit moves i d less machine m old mid new a b c so_far Output stop = move_failed limit moves i d less machine m old mid new a b c so_far stop
move_stopped limit moves i d less machine m old mid new a b c so_far Memory stop = move_without_memory limit moves i d less machine m old mid new a b c so_far stop.0 stop.1

pub test_stopped : (limit : ℕ) (moves : List Move) (more : List Input) (machine : MachineState) (old : Progress) (a c : Option (List ℕ)) (why : Stop) → IsMovesStop limit moves machine old a c why
    → IsTestStop limit old.done moves machine (tested limit old.done (inputs_of_moves moves ++ more) machine).sent a c why
test_stopped limit moves more machine old a c Output stop = stop more
test_stopped limit moves more machine old a c Memory stop = stop

pub text_stopped : (limit done : ℕ) (moves : List Move) (machine : MachineState) (whole : Tested) (a c : Option (List ℕ)) (why : Stop) → IsTestStop limit done moves machine whole.sent a c why
    → IsTestStop limit done moves machine (test_text whole) a c why
text_stopped limit done moves machine whole a c Output stop = prefix_of_longer a c whole.sent (line_end whole.sent ++ last_lines whole) stop
text_stopped limit done moves machine whole a c Memory stop = stop
