use Rattle.log_format.proofs.FoundLaws.{counts_inputs}
use Rattle.log_format.proofs.laws.a_log_of_inputs_counts_them.Goals as goal

pub returns : goal.returns
returns c = counts_inputs
