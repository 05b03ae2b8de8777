use Rattle.std.proofs.Common.{ap, ◌∙◌}
use Rattle.std.specs.Fn.{iterate}
use Rattle.memory_map.specs.Ticks.{tick_serial, tick_dma_and_picture}
use Rattle.memory_map.proofs.Together.{together}
use Rattle.memory_map.proofs.bus.Bus.pass_by_units.Goals as goal

pub returns : goal.returns
returns c =
    c.find_quiet.ensures ∙ c.pass_dma_and_picture.ensures ∙ ap (iterate tick_dma_and_picture c.args.cycles) (c.pass_serial.ensures ∙ ap (iterate tick_serial c.args.cycles) c.pass_timer.ensures.ticks)
    ∙ together c.args.cycles c.args.self.now c.pass_timer.ensures.dma_page
