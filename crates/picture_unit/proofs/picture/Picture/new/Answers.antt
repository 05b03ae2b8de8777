use Rattle.std.proofs.Common.{◌≡◌, ◌<◌, ℕ, List, length, ap, ◌∙◌, refl, arith}
use Rattle.std.specs.Prelude.{All, replicate}
use Rattle.std.proofs.lemmas.List.{length-replicate}
use Rattle.std.proofs.lemmas.List.Elements.{All-replicate}
use Rattle.picture_lines.proofs.Backgrounds.{zeros-small}
use Rattle.picture_unit.specs.LateRows.{rows_of}
use Rattle.picture_unit.specs.Picture.{IsLegalPicture, picture_at_power_on, state_at_power_on, blank_rows}
use Rattle.picture_unit.proofs.picture.Picture.new.Goals as goal

legal_at_power_on : IsLegalPicture state_at_power_on
unfolding state_at_power_on
legal_at_power_on = record { lcdc = omega arith; stat = refl; scy = omega arith; scx = omega arith; lyc = omega arith; bgp = omega arith; obp0 = omega arith; obp1 = omega arith; wy = omega arith; wx = omega arith; ly = omega arith; m_cycle = omega arith; window_counter = omega arith }

pub invariant_of-result : goal.invariant_of-result
unfolding blank_rows
invariant_of-result c =
    let vram = c.in_ok-tiles.tiles in
    let oam = c.in_ok-oam.oam.items in
    let blank : rows_of c.in_ok-rows.rows vram oam ≡ blank_rows = c.in_ok-rows.ensures.blank vram oam in
    let row : List ℕ = replicate 160 0 in
    record {
      whole = record {
        legal = rw c.at_power_on.ensures (legal_at_power_on);
        oam_size = omega (arith, c.in_ok-oam.oam.ok.0, c.in_ok-oam.ensures.len);
        row_count = ap length blank ∙ length-replicate 144 row;
        shades = rw blank (All-replicate (λ row. All (λ shade. shade < 4) row) 144 (replicate 160 0) (zeros-small 160));
      };
      rows = c.in_ok-rows.ensures.right vram oam;
    }

pub returns : goal.returns
unfolding picture_at_power_on
returns c =
    let zeros : c.in_ok-oam.oam.items ≡ replicate 160 0 = c.in_ok-oam.ensures.items_if_clones_equal (λ y h. h) in
    rw (c.in_ok-rows.ensures.blank c.in_ok-tiles.tiles c.in_ok-oam.oam.items, zeros, c.in_ok-tiles.ensures, c.at_power_on.ensures)
