use Rattle.std.proofs.Common.{[], get_or, sym, ap, ◌∙◌, arith, inl, inr}
use Rattle.picture_lines.specs.Pixel.{covers_line, object_at}
use Rattle.picture_lines.specs.declared.registers.LineRegisters.{LineRegisters}
use Rattle.picture_unit.specs.LateRows.{IsKept}
use Rattle.picture_unit.proofs.Touched.{found-same, found-neither, drawn-same}
use Rattle.picture_unit.proofs.rows.KeptRows.follow.Goals as goal

pub loop-index-preserved : goal.loop-index-preserved
loop-index-preserved c =
    let before = c.loop-index.invariant in
    let old = object_at c.args.before.now in
    let new = object_at c.args.after.now in
    let i = c.loop-index.index in
    record {
      lines = c.follow_object.ensures.lines ∙ before.lines;
      some = c.follow_object.ensures.some ∙ before.some;
      fewer = λ y marked. before.fewer y (c.follow_object.ensures.fewer y marked);
      found = λ y within marked by place.
          let s : LineRegisters = get_or c.args.self.now.drawn_by y by in
          let covers = covers_line s in
          let so_far = before.found y within (c.follow_object.ensures.fewer y marked) by place in
          elim (rw before.lines at (c.follow_object.ensures.beside y within marked by (rw before.lines place))) [
            | inl same ↦ found-same covers old new i so_far (sym c.object_at-was.ensures ∙ (same ∙ c.object_at-is.ensures))
            | inr beside ↦ found-neither covers old new i so_far (ap covers (sym c.object_at-was.ensures) ∙ beside.0) (ap covers (sym c.object_at-is.ensures) ∙ beside.1)
          ];
    }

pub returns : goal.returns
returns c = λ rows vram kept some y within marked by.
    let k = c.args.self.now in
    let was : IsKept (get_or k.drawn_by y by) y (get_or rows y []) vram c.args.before.now = kept (sym c.loop-index.invariant.some ∙ some) y within (c.loop-index.invariant.fewer y marked) by in
    let same = drawn-same (get_or k.drawn_by y by) vram c.args.before.now c.args.after.now c.loop-index.index (omega arith) (c.loop-index.invariant.found y within marked by was.place) in
    rw c.loop-index.invariant.lines (record { place = was.place; row = was.row ∙ same })
