use Rattle.std.proofs.Common.{ℕ, ap, sym, subst, ◌∙◌}
use Rattle.picture_unit.specs.declared.state.PictureState.{PictureState}
use Rattle.picture_unit.specs.Picture.{PictureUnit, IsLegalPicture, is_on, mode}
use Rattle.picture_unit.specs.PictureJump.{next_entry}
use Rattle.picture_unit.specs.Registers.{register_value, stat_value}
use Rattle.picture_unit.specs.Stores.{is_vram_closed, is_oam_closed}
use Rattle.picture_unit.specs.LatePicture.{at_cycle, moment}
use Rattle.picture_unit.proofs.LatePictures.{whole_now, state_now, is_moment}
use Rattle.picture_unit.proofs.late_picture.LatePicture.registers_now.Goals as goal

pub returns-clause-legal_now : goal.returns-clause-legal_now
returns-clause-legal_now c = subst (λ (u : PictureUnit). IsLegalPicture u.state) c.self.view_is (whole_now _ _ _ c.self.invariant).legal

pub returns-clause-on : goal.returns-clause-on
unfolding is_on
returns-clause-on c =
    ap (λ (p : PictureState). is_on p) (c.at.ensures ∙ ap (λ (k : ℕ). at_cycle k c.state.result) (is_moment _ _ _ c.self.invariant _ _ c.self.view_is c.frame_cycle.ensures.now) ∙ ap (at_cycle (moment c.self.inside.frame_cycle c.self.inside.picture)) c.state.ensures.state)
    ∙ sym (ap (λ (p : PictureState). is_on p) (state_now _ _ _ c.self.invariant)) ∙ ap (λ (u : PictureUnit). is_on u.state) c.self.view_is

pub returns-clause-vram : goal.returns-clause-vram
unfolding is_vram_closed mode is_on
returns-clause-vram c =
    ap (λ (p : PictureState). is_vram_closed p) (c.at.ensures ∙ ap (λ (k : ℕ). at_cycle k c.state.result) (is_moment _ _ _ c.self.invariant _ _ c.self.view_is c.frame_cycle.ensures.now) ∙ ap (at_cycle (moment c.self.inside.frame_cycle c.self.inside.picture)) c.state.ensures.state)
    ∙ sym (ap (λ (p : PictureState). is_vram_closed p) (state_now _ _ _ c.self.invariant)) ∙ ap (λ (u : PictureUnit). is_vram_closed u.state) c.self.view_is

pub returns-clause-oam : goal.returns-clause-oam
unfolding is_oam_closed mode is_on
returns-clause-oam c =
    ap (λ (p : PictureState). is_oam_closed p) (c.at.ensures ∙ ap (λ (k : ℕ). at_cycle k c.state.result) (is_moment _ _ _ c.self.invariant _ _ c.self.view_is c.frame_cycle.ensures.now) ∙ ap (at_cycle (moment c.self.inside.frame_cycle c.self.inside.picture)) c.state.ensures.state)
    ∙ sym (ap (λ (p : PictureState). is_oam_closed p) (state_now _ _ _ c.self.invariant)) ∙ ap (λ (u : PictureUnit). is_oam_closed u.state) c.self.view_is

pub returns-clause-entry : goal.returns-clause-entry
unfolding next_entry
returns-clause-entry c =
    ap (λ (p : PictureState). next_entry p) (c.at.ensures ∙ ap (λ (k : ℕ). at_cycle k c.state.result) (is_moment _ _ _ c.self.invariant _ _ c.self.view_is c.frame_cycle.ensures.now) ∙ ap (at_cycle (moment c.self.inside.frame_cycle c.self.inside.picture)) c.state.ensures.state)
    ∙ sym (ap (λ (p : PictureState). next_entry p) (state_now _ _ _ c.self.invariant)) ∙ ap (λ (u : PictureUnit). next_entry u.state) c.self.view_is

pub returns-clause-registers : goal.returns-clause-registers
unfolding register_value stat_value mode is_on
returns-clause-registers c address =
    ap (λ (p : PictureState). register_value p address) (c.at.ensures ∙ ap (λ (k : ℕ). at_cycle k c.state.result) (is_moment _ _ _ c.self.invariant _ _ c.self.view_is c.frame_cycle.ensures.now) ∙ ap (at_cycle (moment c.self.inside.frame_cycle c.self.inside.picture)) c.state.ensures.state)
    ∙ sym (ap (λ (p : PictureState). register_value p address) (state_now _ _ _ c.self.invariant)) ∙ ap (λ (u : PictureUnit). register_value u.state address) c.self.view_is
