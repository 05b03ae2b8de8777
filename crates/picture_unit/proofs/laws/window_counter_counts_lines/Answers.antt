use Rattle.picture_unit.proofs.WindowLaws.{counts_lines}
use Rattle.picture_unit.proofs.laws.window_counter_counts_lines.Goals as goal

pub returns : goal.returns
returns c = counts_lines
