use Rattle.std.proofs.Common.{◌≡◌, take}
use Rattle.memory_map.specs.State.{BusState}
use Rattle.sm83_processor.specs.declared.processor.Processor.{Processor}
use Rattle.debugging.specs.Quiet.{has_pc, is_any}
use Rattle.debugging.proofs.aims.addresses_of.Given as goal

abbrev pub invariant-loop-aim : goal.invariant-loop-aim
invariant-loop-aim l = (p : Processor BusState) → is_any (take l.aim-index l.aims) p ≡ has_pc l.addresses.items p
