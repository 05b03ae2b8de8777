use Rattle.std.proofs.Common.{ℕ, List, sym, subst}
use Rattle.picture_unit.specs.Picture.{IsWhole}
use Rattle.picture_unit.specs.LateRows.{rows_of}
use Rattle.picture_unit.proofs.LateLines.{whole_set}
use Rattle.picture_unit.proofs.picture.Picture.set_row.Goals as goal

pub invariant_of-self : goal.invariant_of-self
invariant_of-self c =
    let p = c.self.inside in
    record {
      whole = subst (λ (rows : List (List ℕ)). IsWhole p.state p.oam.items rows) (sym (c.set.ensures.rows p.tiles p.oam.items)) (whole_set p.state p.oam.items (rows_of p.rows p.tiles p.oam.items) c.args.y c.args.row.now c.requires.shades c.self.invariant.whole);
      rows = c.set.ensures.right p.tiles p.oam.items c.self.invariant.rows;
    }
