use Rattle.std.proofs.Common.{inr}
use Rattle.picture_unit.proofs.rows.KeptRows.follow_object.Goals as goal

pub returns-clause-beside : goal.returns-clause-beside
returns-clause-beside c = λ y within marked by place.
    inr (c.unmark.ensures.beside y within (c.unmark-2.ensures.fewer y marked) by place, rw c.unmark.ensures.lines at (c.unmark-2.ensures.beside y within marked by (rw c.unmark.ensures.lines place)))
