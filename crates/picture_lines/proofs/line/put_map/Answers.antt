use Rattle.std.proofs.Common.{◌≡◌, ◌≤◌, ◌+◌, ◌*◌, ◌-◌, ◌%◌, length, ap, ◌∙◌, inl, inr, arith}
use lib.Lanes.{put_chunk}
use Rattle.std.proofs.lemmas.Simd.{get_or-put_chunk_below}
use Rattle.std.proofs.lemmas.Bool.{cases_lt}
use Rattle.picture_lines.specs.Pixel.{map_row}
use Rattle.picture_lines.specs.Tiles.{tile_row}
use Rattle.picture_lines.proofs.TileCache.{length-tile_row, tile_row-small}
use Rattle.picture_lines.proofs.Composing.{put_chunk-small, map_colour-put}
use Rattle.picture_lines.proofs.line.put_map.Goals as goal

pub loop-at-preserved : goal.loop-at-preserved
loop-at-preserved c =
    let a = c.args in
    let o = c.loop-at in
    let index = map_row a.lcdc a.tiles.now a.start ((a.first + (o.at - a.left)) % 256) a.row in
    let colours = tile_row a.tiles.now index in
    let long : length colours ≡ 8 = length-tile_row a.tiles.now index in
    let room : o.at + 8 ≤ length o.buffer = omega arith in
    let same : c.row.new.self ≡ a.tiles.now = cc in
    let column : map_row a.lcdc a.tiles.now a.start (8 * o.tile) a.row ≡ map_row a.lcdc a.tiles.now a.start ((a.first + (o.at - a.left)) % 256) a.row = ap (λ n. map_row a.lcdc a.tiles.now a.start n a.row) o.invariant.column in
    let put : c.put_row.new.buffer ≡ put_chunk o.at o.buffer colours = cc in
    record {
      size = omega arith;
      same = same;
      whole = omega (arith, o.invariant.whole);
      started = omega arith;
      column = omega (arith, o.invariant.column);
      small = rw put (put_chunk-small o.at o.buffer colours (omega arith) o.invariant.small (tile_row-small a.tiles.now index));
      kept = λ i h. rw put (get_or-put_chunk_below o.at o.buffer colours i 0 (omega arith) ∙ o.invariant.kept i h);
      put = λ i above below. rw (put, same) (elim (cases_lt i o.at) [
        | inl before ↦ get_or-put_chunk_below o.at o.buffer colours i 0 before ∙ rw (← o.invariant.same) (o.invariant.put i above before)
        | inr here ↦ map_colour-put a.lcdc a.tiles.now a.start a.first a.left o.at a.row o.buffer c.requires.whole o.invariant.started o.invariant.whole room i here below
      ]);
    }
