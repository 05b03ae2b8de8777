use Rattle.std.proofs.Common.{[]}
use Rattle.saves_tests.proofs.devices.a_changed_file_gives_a_fault.Given as goal

abbrev pub ghost-create : goal.ghost-create
ghost-create g a = []
