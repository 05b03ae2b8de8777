use Rattle.std.proofs.Common.{subst}
use Rattle.memory_map.specs.Lasting.{LastsFor}
use Rattle.memory_map.specs.contracts.bus.Bus.{the_view}
use Rattle.memory_map.proofs.LastingFor.{mode_lasts}
use Rattle.memory_map.proofs.bus.Bus.mode_lasts_for.Goals as goal

pub returns : goal.returns
returns c = subst (LastsFor c.mode_lasts_from.result 0xFF41) c.self.view_is
    (mode_lasts c.frame_cycle.result c.mode_lasts_from.result (the_view c.self.inside) c.frame_cycle.ensures.now c.mode_lasts_from.ensures)
