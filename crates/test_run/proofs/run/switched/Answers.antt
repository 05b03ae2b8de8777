use Rattle.test_run.proofs.Switching.{switched_same}
use Rattle.test_run.proofs.run.switched.Goals as goal

pub returns-in-Ok-clause-kept : goal.returns-in-Ok-clause-kept
returns-in-Ok-clause-kept c = switched_same c.args.cartridge.now c.args.machine c.in-Ok.fresh c.requires c.in-Ok.ensures.of
