-- The bus as the memory of the processor: the rules by which the processor reaches it.
use Rattle.std.specs.Fn.{iterate}
use Rattle.memory_map.specs.State.{BusState}
use Rattle.memory_map.specs.Bus as bus
use Rattle.memory_map.specs.Ticks.{tick}
use Rattle.sm83_processor.specs.Rules.{Rules}

abbrev pub bus_rules : Rules BusState
bus_rules = record {
  value_at = bus.read_at;
  written = λ b address value. bus.written address value b;
  pending_interrupts = bus.pending_interrupts;
  acknowledged = λ b bit. bus.acknowledged bit b;
  passed = λ b cycles. iterate tick cycles b;
}
