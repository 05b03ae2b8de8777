use Rattle.std.proofs.Common.{◌-◌, ◌<◌, ap, ◌∙◌, arith}
use Rattle.memory_map.specs.Bus.{pending_interrupts}
use Rattle.memory_map.proofs.QuietCycles.{fewer_are_quiet, pending_while_quiet}
use Rattle.memory_map.proofs.bus.Bus.pass_few.Goals as goal

pub move_on-requires : goal.move_on-requires
move_on-requires c =
    fewer_are_quiet (c.calm.result - 1) c.args.cycles c.args.self.now (omega (arith, c.if-from-calm.true, c.from.ensures)) c.calm.ensures.quiet

pub returns-then-from-calm-clause-none_pending : goal.returns-then-from-calm-clause-none_pending
returns-then-from-calm-clause-none_pending c = λ _.
    let below : c.args.cycles < c.calm.result = omega (arith, c.if-from-calm.true, c.from.ensures) in
    ap pending_interrupts c.move_on.ensures
    ∙ pending_while_quiet c.calm.result c.args.cycles c.args.self.now below c.calm.ensures.quiet
    ∙ c.calm.ensures.none_pending (omega (arith, below))
