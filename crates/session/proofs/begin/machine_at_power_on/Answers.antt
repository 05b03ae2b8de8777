use Rattle.std.proofs.Common.{sym, subst}
use Rattle.snapshot.specs.Legal.{IsMachineOf}
use Rattle.snapshot.proofs.PowerOn.{start_machine}
use Rattle.session.proofs.Beginnings.{if_ok}
use Rattle.session.proofs.begin.machine_at_power_on.Goals as goal

pub returns-clause-of : goal.returns-clause-of
returns-clause-of c =
    if_ok c.power_on.result c.power_on.ensures (λ m is. subst (IsMachineOf c.args.cartridge.now) (sym is) (start_machine c.args.cartridge.now c.rom.ensures.accepted))
