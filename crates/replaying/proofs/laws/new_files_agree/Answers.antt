use Rattle.replaying.proofs.NewFiles.{new_files}
use Rattle.replaying.proofs.laws.new_files_agree.Goals as goal

pub returns : goal.returns
returns c = new_files
