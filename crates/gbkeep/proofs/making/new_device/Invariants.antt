use Rattle.std.proofs.Common.{replicate}
use Rattle.gbkeep.proofs.making.new_device.Given as goal

abbrev pub ghost-create : goal.ghost-create
ghost-create g a = replicate a.sectors (replicate 512 0)
