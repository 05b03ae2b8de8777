use Rattle.picture_unit.proofs.LateLines.{whole_aside}
use Rattle.picture_unit.proofs.picture.Picture.set_vram.Goals as goal

pub invariant_of-self : goal.invariant_of-self
invariant_of-self c =
    let p = c.self.inside in
    record {
      whole = whole_aside p.state p.oam.items p.oam.items _ _ c.self.invariant.whole.oam_size (rw c.deref.ensures.value at (c.set_late_aside.ensures.rows c.write.new.self p.oam.items)) c.self.invariant.whole;
      rows = c.set_late_aside.ensures.right c.write.new.self p.oam.items;
    }
