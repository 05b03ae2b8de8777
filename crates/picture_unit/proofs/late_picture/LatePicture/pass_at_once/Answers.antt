use Rattle.std.proofs.Common.{◌≡◌, ap, ◌∙◌, refl}
use Rattle.picture_unit.specs.Picture.{PictureUnit, ticks}
use Rattle.picture_unit.proofs.LatePictures.{to_the_moment, late_now, caught_up_now}
use Rattle.picture_unit.proofs.late_picture.LatePicture.pass_at_once.Goals as goal

pub invariant_of-self : goal.invariant_of-self
invariant_of-self c = late_now _ _ _ _ c.frame_cycle-self-inside.ensures.now refl c.frame_cycle-self-inside.ensures.whole c.quiet.ensures.quiet

pub returns-clause-picture : goal.returns-clause-picture
returns-clause-picture c =
    let same : c.pass_to.new.self ≡ c.args.self.now = c.pass_to.ensures ∙ to_the_moment c.self.inside.frame_cycle c.self.inside.picture ∙ c.self.view_is in
    caught_up_now _ _ c.frame_cycle-self-inside.ensures.now ∙ c.pass-requests.ensures.picture ∙ ap (λ (u : PictureUnit). (ticks c.args.cycles u).picture) same

pub returns-clause-vblank : goal.returns-clause-vblank
returns-clause-vblank c =
    let same : c.pass_to.new.self ≡ c.args.self.now = c.pass_to.ensures ∙ to_the_moment c.self.inside.frame_cycle c.self.inside.picture ∙ c.self.view_is in
    c.pass-requests.ensures.vblank ∙ ap (λ (u : PictureUnit). (ticks c.args.cycles u).vblank) same

pub returns-clause-stat : goal.returns-clause-stat
returns-clause-stat c =
    let same : c.pass_to.new.self ≡ c.args.self.now = c.pass_to.ensures ∙ to_the_moment c.self.inside.frame_cycle c.self.inside.picture ∙ c.self.view_is in
    c.pass-requests.ensures.stat ∙ ap (λ (u : PictureUnit). (ticks c.args.cycles u).stat) same
