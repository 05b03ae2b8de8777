use Rattle.std.proofs.Common.{◌∙◌, ap}
use Rattle.debugging.specs.Accesses.{cycle_noted}
use Rattle.debugging.proofs.Frames.{once_more}
use Rattle.debugging.proofs.probe.ProbeMemory.pass.Goals as goal

pub loop-cycle-preserved : goal.loop-cycle-preserved
loop-cycle-preserved c = c.note_cycle.ensures ∙ ap cycle_noted c.loop-cycle.invariant ∙ once_more cycle_noted c.loop-cycle._cycle c.args.self.now
