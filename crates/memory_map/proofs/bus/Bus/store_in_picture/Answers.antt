use Rattle.std.proofs.Common.{ap, ◌∙◌}
use Rattle.picture_unit.specs.Picture.{PictureUnit, is_on}
use Rattle.picture_unit.specs.Laws.{frame_cycle}
use Rattle.picture_unit.proofs.LatePictures.{on_stored, frame_cycle-stored}
use Rattle.memory_map.specs.contracts.bus.Bus.{the_view}
use Rattle.memory_map.proofs.LateBus.{consistent_stored}
use Rattle.memory_map.proofs.bus.Bus.store_in_picture.Goals as goal

pub invariant_of-self : goal.invariant_of-self
invariant_of-self c =
    let p = c.self.inside.picture.state in
    let stored = ap (λ (u : PictureUnit). u.state) c.store_register.ensures.stored in
    consistent_stored _ _ _ _ (the_view c.self.inside) c.store_register.new.self (ap is_on stored ∙ on_stored c.args.address c.args.value p)
    (ap (λ (u : PictureUnit). frame_cycle u.state) c.store_register.ensures.stored ∙ frame_cycle-stored c.args.address c.args.value p) c.store_register.ensures.quiet c.self.invariant
