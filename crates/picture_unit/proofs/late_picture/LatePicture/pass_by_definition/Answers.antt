use Rattle.std.proofs.Common.{◌≡◌, ap, ◌∙◌}
use Rattle.picture_unit.specs.Picture.{PictureUnit, ticks}
use Rattle.picture_unit.proofs.LatePictures.{to_the_moment, caught_up_now}
use Rattle.picture_unit.proofs.late_picture.LatePicture.pass_by_definition.Goals as goal

pub returns-clause-picture : goal.returns-clause-picture
returns-clause-picture c =
    let same : c.pass_to.new.self ≡ c.args.self.now = c.pass_to.ensures ∙ to_the_moment c.self.inside.frame_cycle c.self.inside.picture ∙ c.self.view_is in
    caught_up_now _ _ c.frame_cycle-self-inside.ensures.now ∙ c.pass_by_definition-requests.ensures.picture ∙ ap (λ (u : PictureUnit). (ticks c.args.cycles u).picture) same

pub returns-clause-vblank : goal.returns-clause-vblank
returns-clause-vblank c =
    let same : c.pass_to.new.self ≡ c.args.self.now = c.pass_to.ensures ∙ to_the_moment c.self.inside.frame_cycle c.self.inside.picture ∙ c.self.view_is in
    c.pass_by_definition-requests.ensures.vblank ∙ ap (λ (u : PictureUnit). (ticks c.args.cycles u).vblank) same

pub returns-clause-stat : goal.returns-clause-stat
returns-clause-stat c =
    let same : c.pass_to.new.self ≡ c.args.self.now = c.pass_to.ensures ∙ to_the_moment c.self.inside.frame_cycle c.self.inside.picture ∙ c.self.view_is in
    c.pass_by_definition-requests.ensures.stat ∙ ap (λ (u : PictureUnit). (ticks c.args.cycles u).stat) same
