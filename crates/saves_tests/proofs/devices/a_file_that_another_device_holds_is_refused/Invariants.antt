use Rattle.std.proofs.Common.{[], ◌∷◌, replicate}
use Rattle.saves_tests.proofs.devices.a_file_that_another_device_holds_is_refused.Given as goal

abbrev pub ghost-create : goal.ghost-create
ghost-create g a = replicate a.sectors (replicate 512 0)

abbrev pub ghost-attach : goal.ghost-attach
ghost-attach g a = replicate 512 0 ∷ replicate 512 7 ∷ replicate 512 0 ∷ []
