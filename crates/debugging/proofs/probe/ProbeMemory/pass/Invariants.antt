use Rattle.std.proofs.Common.{◌≡◌}
use Rattle.std.specs.Fn.{iterate}
use Rattle.debugging.specs.Accesses.{cycle_noted}
use Rattle.debugging.proofs.probe.ProbeMemory.pass.Given as goal

abbrev pub invariant-loop-cycle : goal.invariant-loop-cycle
invariant-loop-cycle l = l.self ≡ iterate cycle_noted l._cycle l.fn.self
