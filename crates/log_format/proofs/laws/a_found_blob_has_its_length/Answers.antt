use Rattle.log_format.proofs.FoundLaws.{found_length}
use Rattle.log_format.proofs.laws.a_found_blob_has_its_length.Goals as goal

pub returns : goal.returns
returns c = found_length
