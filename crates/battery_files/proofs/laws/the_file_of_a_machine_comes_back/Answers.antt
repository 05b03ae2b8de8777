use Rattle.battery_files.proofs.Files.{files_come_back}
use Rattle.battery_files.proofs.laws.the_file_of_a_machine_comes_back.Goals as goal

pub returns : goal.returns
returns c = files_come_back
