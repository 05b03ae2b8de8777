use Rattle.std.proofs.Common.{sym, rules}
use Rattle.cartridge.proofs.Accepted.{accepted_unrefused}
use Rattle.cartridge.proofs.refusal.Goals as goal

pub returns-clause-rule : goal.returns-clause-rule
returns-clause-rule c = search rules

pub returns-clause-accepted : goal.returns-clause-accepted
returns-clause-accepted c = accepted_unrefused c.args.image.now (sym (returns-clause-rule c))
