use Rattle.std.proofs.Common.{[]}
use Rattle.gbkeep.proofs.batteries.export.Given as goal

abbrev pub ghost-attach : goal.ghost-attach
ghost-attach g a = []
