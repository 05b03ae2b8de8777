use Rattle.std.proofs.Common.{[]}
use Rattle.failed_syncs.proofs.main.Given as goal

abbrev pub ghost-create : goal.ghost-create
ghost-create a = []
