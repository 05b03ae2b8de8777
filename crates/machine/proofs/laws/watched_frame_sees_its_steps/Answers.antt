use Rattle.machine.proofs.WatchedLaws.{sees_its_steps}
use Rattle.machine.proofs.laws.watched_frame_sees_its_steps.Goals as goal

pub returns : goal.returns
returns c = sees_its_steps
