use Rattle.std.proofs.Common.{ℕ, List, sym, subst, arith}
use Rattle.picture_lines.proofs.Shades.{drawn_row-small}
use Rattle.picture_unit.specs.Picture.{IsWhole, is_on, mode, stat_signal}
use Rattle.picture_unit.specs.PictureJump.{next_entry, next_change}
use Rattle.picture_unit.specs.LateRows.{rows_of}
use Rattle.picture_unit.proofs.LateLines.{whole_set}
use Rattle.picture_unit.proofs.picture.Picture.note_line.Goals as goal

pub invariant_of-self : goal.invariant_of-self
unfolding is_on mode stat_signal next_entry next_change
invariant_of-self c =
    let p = c.self.inside in
    let whole : IsWhole p.state p.oam.items (rows_of c.note.new.self p.tiles p.oam.items) =
    subst (λ (rows : List (List ℕ)). IsWhole p.state p.oam.items rows) (sym (c.note.ensures.rows p.tiles p.oam.items)) (whole_set p.state p.oam.items (rows_of p.rows p.tiles p.oam.items) _ _ (drawn_row-small _ _ _) c.self.invariant.whole) in
    let legal = whole.legal in
    record {
      whole = record {
        legal = record {
          lcdc = legal.lcdc;
          stat = legal.stat;
          scy = legal.scy;
          scx = legal.scx;
          lyc = legal.lyc;
          bgp = legal.bgp;
          obp0 = legal.obp0;
          obp1 = legal.obp1;
          wy = legal.wy;
          wx = legal.wx;
          ly = legal.ly;
          m_cycle = legal.m_cycle;
          window_counter = omega arith;
        };
        oam_size = whole.oam_size;
        row_count = whole.row_count;
        shades = whole.shades;
      };
      rows = c.note.ensures.right p.tiles p.oam.items c.self.invariant.rows;
    }

pub invariant_of-self-else-is_window_drawn : goal.invariant_of-self-else-is_window_drawn
invariant_of-self-else-is_window_drawn c =
    let p = c.self.inside in
    record {
      whole = subst (λ (rows : List (List ℕ)). IsWhole p.state p.oam.items rows) (sym (c.note.ensures.rows p.tiles p.oam.items)) (whole_set p.state p.oam.items (rows_of p.rows p.tiles p.oam.items) _ _ (drawn_row-small _ _ _) c.self.invariant.whole);
      rows = c.note.ensures.right p.tiles p.oam.items c.self.invariant.rows;
    }
