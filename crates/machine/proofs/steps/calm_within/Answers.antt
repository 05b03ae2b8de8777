use Rattle.std.proofs.Common.{arith}
use Rattle.memory_map.proofs.QuietCycles.{fewer_are_calm}
use Rattle.machine.proofs.steps.calm_within.Goals as goal

pub returns-clause-calm : goal.returns-clause-calm
returns-clause-calm c = fewer_are_calm c.calm.result c.min-2.result c.args.memory.now (omega (arith, c.min-2.ensures, c.min.ensures, c.from.ensures)) c.calm.ensures
