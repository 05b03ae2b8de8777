use Rattle.std.proofs.Common.{ap, sym, refl, ◌∙◌}
use Rattle.picture_unit.specs.declared.state.PictureState.{PictureState}
use Rattle.picture_unit.specs.Picture.{unrequested}
use Rattle.picture_unit.specs.LatePicture.{state_after}
use Rattle.picture_unit.specs.Quiet.{bare}
use Rattle.picture_unit.proofs.LatePictures.{next_state}
use Rattle.picture_unit.proofs.state.PictureState.after.Goals as goal

pub loop-cycle-init : goal.loop-cycle-init
unfolding unrequested
loop-cycle-init c = record { legal = c.requires; now = refl }

pub loop-cycle-preserved : goal.loop-cycle-preserved
loop-cycle-preserved c = record {
  legal = c.tick.ensures.legal;
  now = c.tick.ensures.state ∙ ap (λ (p : PictureState). state_after 1 p) c.loop-cycle.invariant.now ∙ sym (next_state c.loop-cycle._cycle (bare c.args.self.now));
}
