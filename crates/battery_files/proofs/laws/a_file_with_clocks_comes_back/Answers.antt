use Rattle.battery_files.proofs.Files.{clocks_come_back}
use Rattle.battery_files.proofs.laws.a_file_with_clocks_comes_back.Goals as goal

pub returns : goal.returns
returns c = clocks_come_back
