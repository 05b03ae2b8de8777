use Rattle.std.proofs.Common.{◌∙◌, arith}
use Rattle.memory_map.proofs.QuietCycles.{pending_while_quiet}
use Rattle.memory_map.proofs.bus.Bus.none_pending_for.Goals as goal

pub returns : goal.returns
returns c = λ k below.
    pending_while_quiet c.calm.result k c.args.self.now below c.calm.ensures.quiet ∙ c.calm.ensures.none_pending (omega (arith, below))
