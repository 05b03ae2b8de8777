use Rattle.std.proofs.Common.{replicate}
use Rattle.saves_tests.proofs.devices.a_file_that_is_there_is_not_taken.Given as goal

abbrev pub ghost-create : goal.ghost-create
ghost-create g a = replicate a.sectors (replicate 512 0)
