use Rattle.battery_files.proofs.Files.{ram_comes_back}
use Rattle.battery_files.proofs.laws.a_file_of_ram_comes_back.Goals as goal

pub returns : goal.returns
returns c = ram_comes_back
