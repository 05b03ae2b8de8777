use Rattle.std.proofs.Common.{arith}
use Rattle.picture_lines.proofs.TileCache.{IsCached-new}
use Rattle.picture_lines.proofs.tiles.TileMemory.new.Goals as goal

pub invariant_of-result : goal.invariant_of-result
invariant_of-result c =
    IsCached-new c.in_ok-bytes.bytes.items c.in_ok-rows.rows.items c.in_ok-stale.stale.items 3072
    (omega (arith, c.in_ok-bytes.bytes.ok.0, c.in_ok-bytes.ensures.len)) (omega (arith, c.in_ok-rows.rows.ok.0, c.in_ok-rows.ensures.len)) (omega (arith, c.in_ok-stale.stale.ok.0, c.in_ok-stale.ensures.len))
    (c.in_ok-stale.ensures.items_if_clones_equal (λ y h. h))
