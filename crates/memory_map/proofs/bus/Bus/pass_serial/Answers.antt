use Rattle.std.proofs.Common.{ap, ◌∙◌}
use Rattle.std.specs.Fn.{iterate}
use Rattle.memory_map.specs.Ticks.{tick_serial}
use Rattle.memory_map.specs.contracts.bus.Bus.{the_view}
use Rattle.memory_map.proofs.UnitRuns.{serial_passed}
use Rattle.memory_map.proofs.bus.Bus.pass_serial.Goals as goal

pub returns : goal.returns
returns c =
    serial_passed c.args.cycles (the_view c.self.inside) c.pass-requests.new.self c.pass-requests.result.bits c.pass-requests.ensures.state c.pass-requests.ensures.requests
    ∙ ap (iterate tick_serial c.args.cycles) c.self.view_is
