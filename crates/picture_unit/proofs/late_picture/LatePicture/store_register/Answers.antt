use Rattle.std.proofs.Common.{◌≡◌, ap, sym, subst, ◌∙◌}
use Rattle.picture_unit.specs.declared.state.PictureState.{PictureState}
use Rattle.picture_unit.specs.Picture.{PictureUnit, IsLegalPicture}
use Rattle.picture_unit.specs.Registers.{register_stored}
use Rattle.picture_unit.specs.Quiet.{AreQuiet}
use Rattle.picture_unit.proofs.LatePictures.{to_the_moment, caught_up_now, late_stored, quiet_stored}
use Rattle.picture_unit.proofs.late_picture.LatePicture.store_register.Goals as goal

pub returns-clause-stored : goal.returns-clause-stored
returns-clause-stored c =
    let same : c.pass_to.new.self ≡ c.args.self.now = c.pass_to.ensures ∙ to_the_moment c.self.inside.frame_cycle c.self.inside.picture ∙ c.self.view_is in
    caught_up_now _ _ c.frame_cycle-self-inside.ensures.now ∙ c.store_register.ensures ∙ ap (λ (u : PictureUnit). record u { state = register_stored c.args.address c.args.value u.state }) same

pub returns-clause-quiet : goal.returns-clause-quiet
returns-clause-quiet c n quiet =
    let same : c.pass_to.new.self ≡ c.args.self.now = c.pass_to.ensures ∙ to_the_moment c.self.inside.frame_cycle c.self.inside.picture ∙ c.self.view_is in
    let stored = ap (λ (u : PictureUnit). u.state) c.store_register.ensures ∙ ap (λ (u : PictureUnit). register_stored c.args.address c.args.value u.state) same in
    let now = ap (λ (u : PictureUnit). u.state) (caught_up_now _ _ c.frame_cycle-self-inside.ensures.now) ∙ stored in
    subst (λ (p : PictureState). AreQuiet n p) (sym now)
    (quiet_stored n c.args.address c.args.value c.args.self.now.state (λ _. subst (λ (p : PictureState). IsLegalPicture p) stored c.frame_cycle-self-inside.ensures.whole.legal) quiet)

pub invariant_of-self : goal.invariant_of-self
invariant_of-self c =
    late_stored _ _ _ c.args.address c.args.value _ _ c.self.invariant
    (ap (λ (u : PictureUnit). u.state) c.store_register.ensures ∙ ap (λ (u : PictureUnit). register_stored c.args.address c.args.value u.state) (c.pass_to.ensures ∙ to_the_moment c.self.inside.frame_cycle c.self.inside.picture))
    c.frame_cycle-self-inside.ensures.now c.frame_cycle-self-inside.ensures.whole
