use Rattle.std.proofs.Common.{[], subst}
use Rattle.std.proofs.lemmas.List.{take_all}
use Rattle.bank_controllers.proofs.Same.{same_itself, same_then}
use Rattle.machine.specs.Machine.{start}
use Rattle.script.specs.declared.moves.Move.TheVariants.{Frames}
use Rattle.test_run.specs.declared.run.Went.TheVariants.{On}
use Rattle.script.specs.Inputs.{inputs_of_moves}
use Rattle.test_run.specs.Playing.{HasReached}
use Rattle.test_run.proofs.Reaching.{reached_nothing, move_ended, move_reached}
use Rattle.test_run.proofs.Stopping.{move_stopped}
use Rattle.test_run.proofs.Switching.{still_same}
use Rattle.test_run.proofs.run.test_moves.Goals as goal

pub loop-a_move-init : goal.loop-a_move-init
loop-a_move-init g c = record { so_far = reached_nothing c.args.limit [] c.args.machine c.args.progress.now _ c.requires.most; kept = same_itself c.args.machine.processor.memory.banks }

pub test_move-requires-clause-of : goal.test_move-requires-clause-of
test_move-requires-clause-of g c =
    still_same c.args.machine.processor.memory.banks c.loop-a_move.machine.processor.memory.banks (start c.args.cartridge.now).processor.memory.banks c.requires.of c.loop-a_move.invariant.kept

pub returns-in-Ok-Over-clause-ok : goal.returns-in-Ok-Over-clause-ok
returns-in-Ok-Over-clause-ok g c =
    move_ended c.args.limit c.args.moves.now c.loop-a_move.a_move-index (Frames 0 0) c.loop-a_move-test.true c.args.machine c.loop-a_move.machine c.args.progress.now c.loop-a_move.progress _ _ _ _
    c.loop-a_move.invariant.so_far c.in-Ok-Over.ended (rw c.in-Ok-Over.field-0-is at c.in-Ok-Over.ensures.ok)

pub returns-in-Err-clause-err : goal.returns-in-Err-clause-err
returns-in-Err-clause-err g c =
    move_stopped c.args.limit c.args.moves.now c.loop-a_move.a_move-index (Frames 0 0) c.loop-a_move-test.true c.args.machine c.loop-a_move.machine c.args.progress.now c.loop-a_move.progress c.test_move.new.progress _ _ _
    c.loop-a_move.invariant.so_far c.in-Err.why c.in-Err.ensures.err

pub loop-a_move-preserved : goal.loop-a_move-preserved
loop-a_move-preserved g c = record {
  so_far =
      move_reached c.args.limit c.args.moves.now c.loop-a_move.a_move-index (Frames 0 0) c.loop-a_move-test.true c.args.machine c.loop-a_move.machine c.args.progress.now c.loop-a_move.progress _ _ _ _
      c.loop-a_move.invariant.so_far c.in-Ok-On.after (rw c.in-Ok-On.field-0-is at c.in-Ok-On.ensures.ok);
  kept = same_then _ _ _ c.loop-a_move.invariant.kept (rw c.in-Ok-On.field-0-is at c.in-Ok-On.ensures.kept);
}

pub returns-clause-ok : goal.returns-clause-ok
returns-clause-ok g c =
    subst (λ l. HasReached c.args.limit (inputs_of_moves l) [] c.args.machine c.args.progress.now c.loop-a_move.progress (g.W.Output.contents c.args.out.now) (g.W.Output.contents c.loop-a_move.out) (On c.loop-a_move.machine))
    (take_all c.loop-a_move.a_move-index c.args.moves.now c.loop-a_move-test.false) c.loop-a_move.invariant.so_far
