use Rattle.std.proofs.Common.{◌≡◌, ◌≤◌, ◌<◌, ℕ, ◌+◌, ◌*◌, ◌-◌, ◌%◌, length, get_or}
use Rattle.std.specs.Prelude.{All}
use Rattle.picture_lines.specs.Pixel.{map_colour}
use Rattle.picture_lines.proofs.line.put_map.Given as goal

abbrev pub invariant-loop-at : goal.invariant-loop-at
invariant-loop-at l = record {
  size : length l.buffer ≡ 176;
  same : l.tiles ≡ l.fn.tiles;
  whole : (l.at - l.left) % 8 ≡ 0;
  started : l.left ≤ l.at;
  column : 8 * l.tile ≡ (l.first + (l.at - l.left)) % 256;
  small : All (λ colour. colour < 4) l.buffer;
  kept : (i : ℕ) → i < l.left → get_or l.buffer i 0 ≡ get_or l.fn.buffer i 0;
  put : (i : ℕ) → l.left ≤ i → i < l.at → get_or l.buffer i 0 ≡ map_colour l.lcdc l.tiles l.start ((l.first + (i - l.left)) % 256) l.row;
}

abbrev pub decreases-loop-at : goal.decreases-loop-at
decreases-loop-at l = 168 - l.at
