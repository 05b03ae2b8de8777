use Rattle.std.proofs.Common.{◌<◌, refl, arith}
use Rattle.std.proofs.lemmas.List.Elements.{All-replicate}
use Rattle.picture_lines.specs.declared.registers.LineRegisters.{LineRegisters}
use Rattle.picture_unit.proofs.rows.LateLines.none.Goals as goal

pub returns-clause-lines : goal.returns-clause-lines
returns-clause-lines c = record {
  visible = All-replicate (λ (r : LineRegisters). r.ly < 144) 144 _ (omega arith);
  none = λ _. refl;
}
