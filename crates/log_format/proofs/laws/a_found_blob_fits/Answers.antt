use Rattle.log_format.proofs.FoundLaws.{found_fits}
use Rattle.log_format.proofs.laws.a_found_blob_fits.Goals as goal

pub returns : goal.returns
returns c = found_fits
