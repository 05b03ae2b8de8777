use Rattle.std.proofs.Common.{◌≡◌, ap, ◌∙◌}
use Rattle.picture_unit.specs.Picture.{PictureUnit, unrequested}
use Rattle.picture_unit.specs.Registers.{register_written}
use Rattle.picture_unit.proofs.LatePictures.{to_the_moment, caught_up_now}
use Rattle.picture_unit.proofs.late_picture.LatePicture.write_signal_register.Goals as goal

pub returns-clause-picture : goal.returns-clause-picture
returns-clause-picture c =
    let same : c.pass_to.new.self ≡ c.args.self.now = c.pass_to.ensures ∙ to_the_moment c.self.inside.frame_cycle c.self.inside.picture ∙ c.self.view_is in
    caught_up_now _ _ c.frame_cycle-self-inside.ensures.now ∙ c.write_register-requested.ensures.picture ∙ ap (λ (u : PictureUnit). (register_written c.args.address c.args.value (unrequested u)).picture) same

pub returns-clause-stat : goal.returns-clause-stat
returns-clause-stat c =
    let same : c.pass_to.new.self ≡ c.args.self.now = c.pass_to.ensures ∙ to_the_moment c.self.inside.frame_cycle c.self.inside.picture ∙ c.self.view_is in
    c.write_register-requested.ensures.stat ∙ ap (λ (u : PictureUnit). (register_written c.args.address c.args.value (unrequested u)).stat) same
