use Rattle.opcode_table.proofs.Matrix.{each_has_its_row}
use Rattle.opcode_table.proofs.laws.each_opcode_has_its_row.Goals as goal

pub returns : goal.returns
returns c = each_has_its_row
