use Rattle.std.proofs.Common.{refl}
use Rattle.std.proofs.KnownBytes.{Keeps-refl}
use Rattle.commands.proofs.list.list_lines.Goals as goal

pub returns-in-Err-new-clause-refused : goal.returns-in-Err-new-clause-refused
returns-in-Err-new-clause-refused g c = (Keeps-refl (g.W.Output.contents c.args.out.now), c.in-Ok.ensures.accepted.0 refl)
