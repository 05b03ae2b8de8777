use Rattle.machine.proofs.WatchedLaws.{sends_on_time}
use Rattle.machine.proofs.laws.step_sends_the_byte_of_the_transfer_that_ends_in_it.Goals as goal

pub returns : goal.returns
returns c = sends_on_time
