use Rattle.std.proofs.Common.{arith}
use Rattle.picture_lines.proofs.TileCache.{IsCached-write, IsCached-write_map}
use Rattle.picture_lines.proofs.tiles.TileMemory.write.Goals as goal

pub invariant_of-self : goal.invariant_of-self
invariant_of-self c = IsCached-write _ _ _ c.args.at c.args.value c.self.invariant c.requires (omega arith)

pub invariant_of-self-else-at-lt-TILE_ROWS : goal.invariant_of-self-else-at-lt-TILE_ROWS
invariant_of-self-else-at-lt-TILE_ROWS c = IsCached-write_map _ _ _ c.args.at c.args.value c.self.invariant (omega arith)
