use Rattle.std.proofs.Common.{[]}
use Rattle.saves_tests.proofs.devices.a_file_of_too_many_sectors_is_refused.Given as goal

abbrev pub ghost-attach : goal.ghost-attach
ghost-attach g a = []
