use Rattle.std.proofs.Common.{◌≡◌}
use Rattle.std.specs.Fn.{iterate}
use Rattle.memory_map.specs.Ticks.{tick_dma_and_picture}
use Rattle.memory_map.proofs.bus.Bus.pass_copying.Given as goal

abbrev pub invariant-loop-left : goal.invariant-loop-left
invariant-loop-left l = iterate tick_dma_and_picture l.left l.self ≡ iterate tick_dma_and_picture l.fn.cycles l.fn.self

abbrev pub decreases-loop-left : goal.decreases-loop-left
decreases-loop-left l = l.left
