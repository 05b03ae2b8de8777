use Rattle.std.proofs.Common.{◌≡◌, arith}
use Rattle.std.proofs.lemmas.Grind.{common_steps}
use Rattle.picture_lines.specs.Tiles.{tile_row}
use Rattle.picture_lines.proofs.TileCache.{IsCached-load}
use Rattle.picture_lines.proofs.tiles.TileMemory.row.Goals as goal

pub invariant_of-self : goal.invariant_of-self
unfolding tile_row
invariant_of-self c =
    let right : c.tile_colours-colours.result ≡ tile_row c.self.inside.bytes.items c.args.index = grind (arith, common_steps) in
    IsCached-load c.self.inside.bytes.items c.self.inside.rows.items c.self.inside.stale.items c.args.index c.tile_colours-colours.result c.self.invariant c.requires right

pub returns-then-index-clause-value : goal.returns-then-index-clause-value
unfolding tile_row
returns-then-index-clause-value c = rw (← c.self.view_is) (grind (arith, common_steps))
