use Rattle.std.proofs.Common.{◌+◌, ◌-◌, length, arith}
use Rattle.log_format.proofs.Bytes.{put_behind}
use Rattle.log_format.proofs.format.put.Goals as goal

pub returns : goal.returns
returns c = λ done size is. put_behind done c.args.bytes.now c.args.sector.now c.copy_from_slice.new.self c.args.at (c.args.at + length c.args.bytes.now - c.args.at) size is c.copy_from_slice.ensures.after (omega arith) c.requires
