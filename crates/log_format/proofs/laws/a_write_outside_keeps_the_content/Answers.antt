use Rattle.log_format.proofs.ContentLaw.{outside_kept}
use Rattle.log_format.proofs.laws.a_write_outside_keeps_the_content.Goals as goal

pub returns : goal.returns
returns c = outside_kept
