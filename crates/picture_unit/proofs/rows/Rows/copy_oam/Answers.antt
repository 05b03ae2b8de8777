use Rattle.std.proofs.Common.{◌≡◌, ℕ, List, length, true, ap, ◌∙◌, refl}
use Rattle.std.specs.Prelude.{replicate, false}
use Rattle.picture_unit.specs.declared.rows.LateLines.{LateLines}
use Rattle.picture_unit.specs.LateRows.{with_late}
use Rattle.picture_unit.proofs.LateLines.{shown_as_is}
use Rattle.picture_unit.proofs.rows.Rows.copy_oam.Goals as goal

pub returns-clause-right : goal.returns-clause-right
returns-clause-right c = λ oam'. rw c.draw_earlier.ensures.tiles (record {
  late = record {
    visible = rw c.draw_earlier.ensures.late c.requires.right.late.visible;
    none = λ _. refl;
  };
  earlier = rw c.draw_earlier.ensures.late c.requires.right.late;
  oam_size = ap length c.copy_from_slice.ensures.items ∙ c.requires.oam;
  row_count = c.draw_earlier.ensures.row_count;
  kept = c.draw_earlier.ensures.kept;
  kept_oam = λ same. absurd (let e : false ≡ true = same in cc);
})

pub returns-clause-rows : goal.returns-clause-rows
returns-clause-rows c = λ oam'. rw c.draw_earlier.ensures.tiles (
    let r = c.args.self.now in
    let m = c.draw_earlier.new.self in
    let vram = c.args.tiles.now in
    let oam : c.copy_from_slice.new.self.items ≡ c.args.oam.now = c.copy_from_slice.ensures.items in
    shown_as_is (record m.late { are_late = replicate 144 false; has_some = false }) vram oam' (with_late m.late vram c.copy_from_slice.new.self.items m.drawn.items) refl
    ∙ (ap (λ (o : List ℕ). with_late m.late vram o m.drawn.items) oam
    ∙ (ap (λ (lines : LateLines). with_late lines vram c.args.oam.now m.drawn.items) c.draw_earlier.ensures.late ∙ ap (with_late r.late vram c.args.oam.now) c.draw_earlier.ensures.rows)))
