use Rattle.replaying.proofs.Written.{nothing_for_none}
use Rattle.replaying.proofs.lines.write_run.Goals as goal

pub returns-then-run-eq0-clause-ok : goal.returns-then-run-eq0-clause-ok
returns-then-run-eq0-clause-ok g c = nothing_for_none (g.W.Output.contents c.args.out.now) c.args.run.buttons c.args.run.times c.if-run-eq0.true
