use Rattle.std.proofs.Common.{replicate}
use Rattle.saves_tests.proofs.devices.is_not_made_anew.Given as goal

abbrev pub ghost-create : goal.ghost-create
ghost-create g a = replicate a.sectors (replicate 512 0)
