use Rattle.std.proofs.Common.{◌-◌, replicate}
use Rattle.bank_controllers.specs.CartridgeState.{IsSameCartridge}
use Rattle.machine.specs.Machine.{Frame}
use Rattle.test_run.specs.declared.run.Went.TheVariants.{On}
use Rattle.test_run.specs.Playing.{HasReached}
use Rattle.test_run.proofs.run.test_frames.Given as goal

-- the frames so far were played
abbrev pub invariant-loop-i : goal.invariant-loop-i
invariant-loop-i g l =
    record {
      so_far : HasReached l.limit (replicate l.times (Frame l.buttons)) (replicate (l.times - l._i) (Frame l.buttons)) l.fn.machine l.fn.progress l.progress
          (g.W.Output.contents l.fn.out) (g.W.Output.contents l.out) (On l.machine);
      kept : IsSameCartridge l.fn.machine.processor.memory.banks l.machine.processor.memory.banks;
    }
