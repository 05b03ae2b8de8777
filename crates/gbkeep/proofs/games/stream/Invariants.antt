use Rattle.std.proofs.Common.{[]}
use Rattle.gbkeep.proofs.games.stream.Given as goal

abbrev pub ghost-attach : goal.ghost-attach
ghost-attach g a = []
