use Rattle.std.proofs.Common.{◌≡◌, ap, ◌∙◌, subst, sym, true}
use Rattle.picture_unit.specs.Picture.{PictureUnit, is_on, ticks}
use Rattle.picture_unit.specs.Quiet.{AreQuiet}
use Rattle.picture_unit.proofs.LatePictures.{counted_late, counted_up_to}
use Rattle.picture_unit.proofs.late_picture.LatePicture.count.Goals as goal

pub invariant_of-self : goal.invariant_of-self
invariant_of-self c =
    let quiet = subst (λ (u : PictureUnit). is_on u.state ≡ true → AreQuiet c.args.cycles u.state) (sym c.self.view_is) c.requires in
    counted_late c.self.inside.frame_cycle c.self.inside.quiet_until c.args.cycles c.self.inside.picture c.self.invariant quiet

pub returns : goal.returns
returns c =
    let quiet = subst (λ (u : PictureUnit). is_on u.state ≡ true → AreQuiet c.args.cycles u.state) (sym c.self.view_is) c.requires in
    counted_up_to c.self.inside.frame_cycle c.self.inside.quiet_until c.args.cycles c.self.inside.picture c.self.invariant quiet
    ∙ ap (λ (u : PictureUnit). (ticks c.args.cycles u).picture) c.self.view_is
