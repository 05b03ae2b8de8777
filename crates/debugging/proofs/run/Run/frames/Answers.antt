use Rattle.debugging.proofs.Frames.{and_frame}
use Rattle.debugging.proofs.run.Run.frames.Goals as goal

pub loop-i-preserved : goal.loop-i-preserved
loop-i-preserved c = and_frame c.args.buttons c.loop-i._i c.args.self c.loop-i.run c.frame-run.result c.loop-i.invariant c.frame-run.ensures
