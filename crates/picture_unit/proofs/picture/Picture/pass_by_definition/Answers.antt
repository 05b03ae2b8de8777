use Rattle.std.proofs.Common.{ap, sym, ◌∙◌}
use Rattle.repeated_steps.proofs.Iterates.{iterate-add_one}
use Rattle.picture_unit.specs.Picture.{tick, unrequested}
use Rattle.picture_unit.proofs.picture.Picture.pass_by_definition.Goals as goal

pub loop-cycle-preserved : goal.loop-cycle-preserved
loop-cycle-preserved c =
    c.tick-requests.ensures ∙ ap tick c.loop-cycle.invariant ∙ sym (iterate-add_one tick c.loop-cycle._cycle (unrequested c.args.self.now))
