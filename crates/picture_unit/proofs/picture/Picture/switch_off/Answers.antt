use Rattle.std.proofs.Common.{◌≡◌, ◌<◌, ℕ, List, length, ap, arith, ◌∙◌}
use Rattle.std.specs.Prelude.{All, replicate}
use Rattle.std.proofs.lemmas.List.{length-replicate}
use Rattle.std.proofs.lemmas.List.Elements.{All-replicate}
use Rattle.picture_lines.proofs.Backgrounds.{zeros-small}
use Rattle.picture_unit.specs.Picture.{blank_rows}
use Rattle.picture_unit.specs.LateRows.{rows_of}
use Rattle.picture_unit.proofs.picture.Picture.switch_off.Goals as goal

pub invariant_of-self : goal.invariant_of-self
unfolding blank_rows
invariant_of-self c =
    let before = c.self.invariant.whole in
    let row : List ℕ = replicate 160 0 in
    let blank : rows_of c.blank.new.self c.self.inside.tiles c.self.inside.oam.items ≡ blank_rows = c.blank.ensures.rows c.self.inside.tiles c.self.inside.oam.items in
    record {
      whole = record {
        legal = record {
          lcdc = omega arith;
          stat = before.legal.stat;
          scy = before.legal.scy;
          scx = before.legal.scx;
          lyc = before.legal.lyc;
          bgp = before.legal.bgp;
          obp0 = before.legal.obp0;
          obp1 = before.legal.obp1;
          wy = before.legal.wy;
          wx = before.legal.wx;
          ly = omega arith;
          m_cycle = omega arith;
          window_counter = omega arith;
        };
        oam_size = before.oam_size;
        row_count = ap length blank ∙ length-replicate 144 row;
        shades = rw blank (All-replicate (λ row. All (λ shade. shade < 4) row) 144 (replicate 160 0) (zeros-small 160));
      };
      rows = c.blank.ensures.right c.self.inside.tiles c.self.inside.oam.items;
    }
