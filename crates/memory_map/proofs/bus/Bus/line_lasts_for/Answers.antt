use Rattle.std.proofs.Common.{◌-◌, ◌%◌, subst}
use Rattle.memory_map.specs.Lasting.{LastsFor}
use Rattle.memory_map.specs.contracts.bus.Bus.{the_view}
use Rattle.memory_map.proofs.LastingFor.{line_lasts}
use Rattle.memory_map.proofs.bus.Bus.line_lasts_for.Goals as goal

pub returns : goal.returns
returns c = subst (LastsFor (113 - c.frame_cycle.result % 114) 0xFF44) c.self.view_is (line_lasts c.frame_cycle.result (the_view c.self.inside) c.frame_cycle.ensures.now)
