use Rattle.sector_device.proofs.FailingCalls.{fuse_lets_pass}
use Rattle.sector_device.proofs.laws.fuse_lets_so_many_pass.Goals as goal

pub returns : goal.returns
returns c = fuse_lets_pass
