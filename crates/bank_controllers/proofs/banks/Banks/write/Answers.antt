use Rattle.bank_controllers.proofs.Same.{register_same}
use Rattle.bank_controllers.proofs.banks.Banks.write.Goals as goal

pub returns-then-address-lt32768-clause-same : goal.returns-then-address-lt32768-clause-same
returns-then-address-lt32768-clause-same c = rw c.write_register.ensures (register_same c.args.address c.args.value c.args.self.now)
