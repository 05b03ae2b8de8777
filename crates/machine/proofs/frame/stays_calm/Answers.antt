use Rattle.std.proofs.Common.{arith}
use Rattle.std.proofs.lemmas.Bool.{leb-true}
use Rattle.memory_map.proofs.QuietCycles.{fewer_are_calm}
use Rattle.machine.proofs.frame.stays_calm.Goals as goal

pub returns : goal.returns
returns c = λ le.
    let within = leb-true c.args.left c.from.result le in
    fewer_are_calm c.calm.result c.args.left c.args.memory.now (omega (arith, within, c.from.ensures)) c.calm.ensures
