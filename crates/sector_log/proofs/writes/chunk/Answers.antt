use Rattle.std.proofs.Common.{◌*◌}
use Rattle.log_format.proofs.Areas.{chunk_is}
use Rattle.sector_log.proofs.writes.chunk.Goals as goal

pub returns : goal.returns
returns c = chunk_is c.args.log.now (84 * c.args.index) c.min-from.result c.min-to.result c.min-from.ensures c.min-to.ensures
