use Rattle.std.proofs.Common.{[]}
use Rattle.saves_tests.proofs.devices.a_length_that_is_too_great_leaves_no_file.Given as goal

abbrev pub ghost-create : goal.ghost-create
ghost-create g a = []
