use Rattle.std.proofs.Common.{◌++◌, ◌*◌, take}
use Rattle.std.specs.List.{flat_map}
use Rattle.std.specs.Io.KnownBytes.{Appends}
use Rattle.picture_unit.specs.Pgm.{header_text, row_text}
use Rattle.picture_unit.proofs.pgm.write_rows.Given as goal

abbrev pub invariant-loop-part : goal.invariant-loop-part
invariant-loop-part g l = Appends (g.W.Output.contents l.fn.out) (g.W.Output.contents l.out) (header_text ++ flat_map row_text (take (24 * l.part) l.picture.rows))
