use Rattle.std.proofs.Common.{◌<◌, arith}
use Rattle.bank_controllers.proofs.Legal.{register_written-legal}
use Rattle.bank_controllers.proofs.banks.Banks.write_register.Goals as goal

pub restore-requires : goal.restore-requires
restore-requires c =
    let small : c.args.value < 256 = omega arith in
    rw (c.register_written-state.ensures, ← c.self.view_is)
    (register_written-legal c.self.inside.rumble c.args.address c.args.value c.self.inside.state small c.self.invariant.legal.state)
