use Rattle.log_format.proofs.Wrong.{none_wrong}
use Rattle.log_format.proofs.laws.a_log_of_inputs_has_none_wrong.Goals as goal

pub returns : goal.returns
returns c = none_wrong
