use Rattle.machine.proofs.WatchedLaws.{watching_changes_nothing}
use Rattle.machine.proofs.laws.watching_changes_nothing.Goals as goal

pub returns : goal.returns
returns c = watching_changes_nothing
