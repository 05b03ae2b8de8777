use Rattle.std.proofs.Common.{◌≡◌, ◌-◌, false, List, ℕ, ap, sym, ◌∙◌}
use Rattle.picture_unit.specs.Laws.{frame_cycle}
use Rattle.picture_unit.specs.LatePicture.{moment}
use Rattle.picture_unit.specs.Picture.{PictureUnit}
use Rattle.picture_unit.specs.Stores.{oam_copied, byte_read}
use Rattle.picture_unit.proofs.LatePictures.{to_the_moment, caught_up_now, late_kept, state-oam_copied, same_copied, oam_kept}
use Rattle.picture_unit.proofs.late_picture.LatePicture.copy_to_oam.Goals as goal

pub returns : goal.returns
returns c =
    let same : c.pass_to.new.self ≡ c.args.self.now = c.pass_to.ensures ∙ to_the_moment c.self.inside.frame_cycle c.self.inside.picture ∙ c.self.view_is in
    caught_up_now _ _ c.frame_cycle-self-inside.ensures.now ∙ c.copy_to_oam.ensures ∙ ap (λ (u : PictureUnit). oam_copied c.args.offset c.args.value u) same

pub invariant_of-self : goal.invariant_of-self
invariant_of-self c =
    late_kept _ _ _ _ _ c.self.invariant
    (ap (λ (u : PictureUnit). u.state) c.copy_to_oam.ensures ∙ state-oam_copied c.args.offset c.args.value c.pass_to.new.self ∙ ap (λ (u : PictureUnit). u.state) (c.pass_to.ensures ∙ to_the_moment c.self.inside.frame_cycle c.self.inside.picture))
    c.frame_cycle-self-inside.ensures.now c.frame_cycle-self-inside.ensures.whole

pub returns-then-peek_oam-value : goal.returns-then-peek_oam-value
returns-then-peek_oam-value c =
    let s = c.self.inside.picture in
    let kept : c.args.self.now.oam ≡ s.oam = sym (ap (λ (u : PictureUnit). u.oam) c.self.view_is) ∙ oam_kept (moment c.self.inside.frame_cycle s - frame_cycle s.state) s in
    same_copied c.args.offset c.args.value c.args.self.now
    (ap (λ (bytes : List ℕ). byte_read false bytes c.args.offset) kept ∙ sym c.peek_oam.ensures ∙ c.if-peek_oam-value.true)
