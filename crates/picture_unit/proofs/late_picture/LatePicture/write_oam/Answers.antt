use Rattle.std.proofs.Common.{◌≡◌, ap, ◌∙◌}
use Rattle.picture_unit.specs.Picture.{PictureUnit}
use Rattle.picture_unit.specs.Stores.{oam_written}
use Rattle.picture_unit.proofs.LatePictures.{to_the_moment, caught_up_now, late_kept, state-oam_written}
use Rattle.picture_unit.proofs.late_picture.LatePicture.write_oam.Goals as goal

pub returns : goal.returns
returns c =
    let same : c.pass_to.new.self ≡ c.args.self.now = c.pass_to.ensures ∙ to_the_moment c.self.inside.frame_cycle c.self.inside.picture ∙ c.self.view_is in
    caught_up_now _ _ c.frame_cycle-self-inside.ensures.now ∙ c.write_oam.ensures ∙ ap (λ (u : PictureUnit). oam_written c.args.offset c.args.value u) same

pub invariant_of-self : goal.invariant_of-self
invariant_of-self c =
    late_kept _ _ _ _ _ c.self.invariant
    (ap (λ (u : PictureUnit). u.state) c.write_oam.ensures ∙ state-oam_written c.args.offset c.args.value c.pass_to.new.self ∙ ap (λ (u : PictureUnit). u.state) (c.pass_to.ensures ∙ to_the_moment c.self.inside.frame_cycle c.self.inside.picture))
    c.frame_cycle-self-inside.ensures.now c.frame_cycle-self-inside.ensures.whole
