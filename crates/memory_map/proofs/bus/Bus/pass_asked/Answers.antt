use Rattle.std.proofs.Common.{arith}
use Rattle.memory_map.proofs.QuietCycles.{fewer_are_quiet}
use Rattle.memory_map.proofs.bus.Bus.pass_asked.Goals as goal

pub move_on-requires : goal.move_on-requires
move_on-requires c = fewer_are_quiet c.quiet.result c.args.cycles c.args.self.now (omega (arith, c.if-from-quiet.true, c.from.ensures)) c.quiet.ensures
