use Rattle.std.proofs.Common.{[], take}
use Rattle.bank_controllers.specs.CartridgeState.{IsSameCartridge}
use Rattle.test_run.specs.declared.run.Went.TheVariants.{On}
use Rattle.script.specs.Inputs.{inputs_of_moves}
use Rattle.test_run.specs.Playing.{HasReached}
use Rattle.test_run.proofs.run.test_moves.Given as goal

-- the moves so far were made
abbrev pub invariant-loop-a_move : goal.invariant-loop-a_move
invariant-loop-a_move g l = record {
  so_far : HasReached l.limit (inputs_of_moves (take l.a_move-index l.moves)) [] l.fn.machine l.fn.progress l.progress
      (g.W.Output.contents l.fn.out) (g.W.Output.contents l.out) (On l.machine);
  kept : IsSameCartridge l.fn.machine.processor.memory.banks l.machine.processor.memory.banks;
}
