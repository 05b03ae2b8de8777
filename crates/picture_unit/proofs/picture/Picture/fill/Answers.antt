use Rattle.std.proofs.Common.{length, ap, ◌∙◌}
use Rattle.picture_unit.proofs.LateLines.{whole_aside}
use Rattle.picture_unit.specs.declared.region.PictureRegion.{PictureRegion}
use Rattle.picture_unit.specs.Stores.{region_length}
use Rattle.picture_unit.proofs.picture.Picture.fill.Goals as goal

pub invariant_of-self : goal.invariant_of-self
invariant_of-self c =
    let p = c.self.inside in
    record {
      whole = whole_aside p.state p.oam.items p.oam.items _ _ c.self.invariant.whole.oam_size (rw c.deref.ensures.value at (c.set_late_aside.ensures.rows c.fill.new.self p.oam.items)) c.self.invariant.whole;
      rows = c.set_late_aside.ensures.right c.fill.new.self p.oam.items;
    }

pub invariant_of-self-in-Oam : goal.invariant_of-self-in-Oam
unfolding region_length
invariant_of-self-in-Oam c =
    let p = c.self.inside in
    let oam = c.copy_from_slice.new.self.items in
    record {
      whole = whole_aside p.state p.oam.items oam _ _ (ap length c.copy_from_slice.ensures.items ∙ c.requires ∙ ap (λ (region : PictureRegion). region_length region) c.in-Oam.is) (rw c.deref.ensures.value at (c.set_late_aside.ensures.rows c.set_late_aside.new.tiles oam)) c.self.invariant.whole;
      rows = c.set_late_aside.ensures.right c.set_late_aside.new.tiles oam;
    }
