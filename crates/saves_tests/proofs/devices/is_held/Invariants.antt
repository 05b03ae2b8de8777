use Rattle.std.proofs.Common.{replicate}
use Rattle.saves_tests.proofs.devices.is_held.Given as goal

abbrev pub ghost-attach : goal.ghost-attach
ghost-attach g a = replicate 3 (replicate 512 0)
