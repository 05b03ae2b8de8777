use Rattle.log_format.proofs.OpenLaw.{any_written, in_append}
use Rattle.log_format.proofs.laws.an_append_adds_a_prefix.Goals as goal

pub returns-clause-content : goal.returns-clause-content
returns-clause-content c = in_append

pub returns-clause-log : goal.returns-clause-log
returns-clause-log c = any_written
