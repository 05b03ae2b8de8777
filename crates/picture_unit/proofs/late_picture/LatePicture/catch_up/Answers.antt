use Rattle.std.proofs.Common.{◌∙◌, refl}
use Rattle.picture_unit.proofs.LatePictures.{to_the_moment, late_now, caught_up_now}
use Rattle.picture_unit.proofs.late_picture.LatePicture.catch_up.Goals as goal

pub invariant_of-self : goal.invariant_of-self
invariant_of-self c = late_now _ _ _ _ c.frame_cycle-self-inside.ensures.now refl c.frame_cycle-self-inside.ensures.whole c.quiet.ensures.quiet

pub returns : goal.returns
returns c = caught_up_now _ _ c.frame_cycle-self-inside.ensures.now ∙ c.pass_to.ensures ∙ to_the_moment c.self.inside.frame_cycle c.self.inside.picture ∙ c.self.view_is
