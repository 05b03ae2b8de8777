use Rattle.std.proofs.Common.{arith}
use Rattle.session.proofs.Recovering.{counted_all, legal_of, log_cause}
use Rattle.session.proofs.recovery.rebuilt.Goals as goal

pub returns-in-Err-log_refusal-clause-err : goal.returns-in-Err-log_refusal-clause-err
returns-in-Err-log_refusal-clause-err c =
    log_cause c.args.cartridge.now c.args.encoded.now c.args.log.now c.args.generation c.in-Err-log_refusal.why
    (legal_of c.args.cartridge.now c.args.encoded.now c.in-Ok.machine c.in-Ok.ensures.ok.0 c.in-Ok.ensures.ok.1) c.in-Err-log_refusal.ensures.err

pub overflow_add-result : goal.overflow_add-result
overflow_add-result c = let all = counted_all c.args.log.now c.in_default.ensures.ok.0 in omega (arith, all, c.replay-count.ensures.count, c.requires.counts)

pub returns-in_default-clause-fits : goal.returns-in_default-clause-fits
returns-in_default-clause-fits c = let all = counted_all c.args.log.now c.in_default.ensures.ok.0 in omega (arith, all, c.replay-count.ensures.count, c.requires.counts)
