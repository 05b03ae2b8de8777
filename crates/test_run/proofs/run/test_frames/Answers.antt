use Rattle.std.proofs.Common.{◌≡◌, ◌-◌, ◌+◌, [], ◌∷◌, replicate, arith}
use Rattle.bank_controllers.proofs.Same.{same_itself, same_then}
use Rattle.machine.specs.Machine.{Frame}
use Rattle.test_run.proofs.Reaching.{frames_all, frames_next, left_none, over_anyway, reached_nothing, reached_then, stops_then}
use Rattle.test_run.proofs.run.test_frames.Goals as goal

pub loop-i-init : goal.loop-i-init
loop-i-init g c =
    let all : c.args.times - 0 ≡ c.args.times = omega arith in
    record { so_far = rw all (reached_nothing c.args.limit (replicate c.args.times (Frame c.args.buttons)) c.args.machine c.args.progress.now _ c.requires); kept = same_itself c.args.machine.processor.memory.banks }

pub returns-in-Ok-Over-clause-ok : goal.returns-in-Ok-Over-clause-ok
returns-in-Ok-Over-clause-ok g c =
    let next = frames_next c.args.times c.loop-i._i c.args.buttons c.loop-i-test.true in
    over_anyway c.args.limit (replicate c.args.times (Frame c.args.buttons)) (replicate (c.args.times - (c.loop-i._i + 1)) (Frame c.args.buttons)) c.args.machine c.args.progress.now _ _ _ c.in-Ok-Over.ended
    (reached_then c.args.limit (replicate c.args.times (Frame c.args.buttons)) (replicate (c.args.times - c.loop-i._i) (Frame c.args.buttons)) (Frame c.args.buttons ∷ []) _ c.args.machine c.loop-i.machine c.args.progress.now c.loop-i.progress _ _ _ _ _
    next c.loop-i.invariant.so_far (rw c.in-Ok-Over.field-0-is at c.in-Ok-Over.ensures.ok))

pub returns-in-Err-clause-err : goal.returns-in-Err-clause-err
returns-in-Err-clause-err g c =
    let next = frames_next c.args.times c.loop-i._i c.args.buttons c.loop-i-test.true in
    stops_then c.args.limit (replicate c.args.times (Frame c.args.buttons)) (replicate (c.args.times - c.loop-i._i) (Frame c.args.buttons)) (Frame c.args.buttons ∷ []) _ c.args.machine c.loop-i.machine c.args.progress.now c.loop-i.progress _ _ _
    next c.loop-i.invariant.so_far c.in-Err.ensures.err

pub loop-i-preserved : goal.loop-i-preserved
loop-i-preserved g c =
    let next = frames_next c.args.times c.loop-i._i c.args.buttons c.loop-i-test.true in
    record {
      so_far =
          reached_then c.args.limit (replicate c.args.times (Frame c.args.buttons)) (replicate (c.args.times - c.loop-i._i) (Frame c.args.buttons)) (Frame c.args.buttons ∷ []) _ c.args.machine c.loop-i.machine c.args.progress.now c.loop-i.progress _ _ _ _ _
          next c.loop-i.invariant.so_far (rw c.in-Ok-On.field-0-is at c.in-Ok-On.ensures.ok);
      kept = same_then _ _ _ c.loop-i.invariant.kept (rw c.in-Ok-On.field-0-is at c.in-Ok-On.ensures.kept);
    }

pub returns-clause-ok : goal.returns-clause-ok
returns-clause-ok g c =
    left_none c.args.limit _ _ c.args.machine c.args.progress.now _ _ _ _ (frames_all c.args.times c.loop-i._i c.args.buttons c.loop-i-test.false) c.loop-i.invariant.so_far

pub returns-clause-kept : goal.returns-clause-kept
returns-clause-kept g c = c.loop-i.invariant.kept
