use Rattle.std.proofs.Common.{set, ◌∙◌}
use Rattle.std.proofs.lemmas.List.{length-set}
use Rattle.picture_unit.proofs.LateLines.{whole_aside}
use Rattle.picture_unit.proofs.picture.Picture.copy_to_oam.Goals as goal

pub invariant_of-self : goal.invariant_of-self
invariant_of-self c =
    let p = c.self.inside in
    let oam = set p.oam.items c.args.offset c.args.value in
    record {
      whole = whole_aside p.state p.oam.items oam _ _ (length-set p.oam.items c.args.offset c.args.value ∙ c.self.invariant.whole.oam_size) (rw c.deref.ensures.value at (c.set_aside_for_objects.ensures.rows oam)) c.self.invariant.whole;
      rows = c.set_aside_for_objects.ensures.right oam;
    }
