use Rattle.std.proofs.lemmas.List.{get_or-map}
use Rattle.std.proofs.Common.{refl, ◌≡◌, ◌<◌, ◌+◌, ◌-◌, ◌∷◌, ◌∙◌, List, drop, get_or, length, inl, inr, ap, sym, arith, add-one}
use Rattle.std.specs.Prelude.{if◌then◌else◌}
use Rattle.std.proofs.lemmas.Bool.{cases_lt}
use Rattle.picture_lines.specs.Layers.{IsLayered}
use Rattle.std.proofs.Math.Seq.{drop-cons}
use Rattle.picture_lines.specs.Bits.{has_bit, shade_of}
use Rattle.picture_lines.specs.Pixel.{object_colour, object_row, row_colour}
use Rattle.picture_lines.specs.declared.object_entry.Object.{Object}
use Rattle.picture_lines.proofs.Layering.{IsLayered-unseen, layered-put, layered-left, object_colour-left, object_colour-right, object_colour-at}
use Rattle.picture_lines.proofs.TileCache.{tile_row-small, length-tile_row, get_or-tile_row}
use Rattle.picture_lines.proofs.registers.LineRegisters.put_object.Goals as goal

pub returns-then-object-ge168-clause-layered : goal.returns-then-object-ge168-clause-layered
returns-then-object-ge168-clause-layered c x h =
    let o : Object = get_or c.args.selected.now c.args.index record { y = 0; x = 0; tile = 0; attributes = 0 } in
    let split : drop c.args.index c.args.selected.now ≡ o ∷ drop (c.args.index + 1) c.args.selected.now = rw add-one (drop-cons c.args.selected.now c.args.index _ c.requires.index_in) in
    rw split (IsLayered-unseen c.args.self.now c.args.tiles.now x o (drop (c.args.index + 1) c.args.selected.now) _ _ (c.requires.layered x h)
    (object_colour-left c.args.self.now c.args.tiles.now x o (omega arith)))

pub loop-across-init : goal.loop-across-init
loop-across-init c =
    let o : Object = get_or c.args.selected.now c.args.index record { y = 0; x = 0; tile = 0; attributes = 0 } in
    let split : drop c.args.index c.args.selected.now ≡ o ∷ drop (c.args.index + 1) c.args.selected.now = rw add-one (drop-cons c.args.selected.now c.args.index _ c.requires.index_in) in
    record {
      put = λ x h below. rw (c.row-colours.ensures.kept, split) (IsLayered-unseen c.args.self.now c.args.tiles.now x o (drop (c.args.index + 1) c.args.selected.now) _ _ (c.requires.layered x h)
          (object_colour-left c.args.self.now c.args.tiles.now x o (omega arith)));
      left = λ x h above. rw c.row-colours.ensures.kept (c.requires.layered x h);
    }

pub map_shades-requires : goal.map_shades-requires
map_shades-requires c = rw c.row-colours.ensures.value (tile_row-small c.args.tiles.now c.object_row.result)

pub put_pixel-requires-clause-shade : goal.put_pixel-requires-clause-shade
put_pixel-requires-clause-shade c =
    let size : length c.row-colours.result ≡ 8 = rw c.row-colours.ensures.value (length-tile_row c.args.tiles.now c.object_row.result) in
    let within : c.turned-place.result < length c.row-colours.result = omega (arith, size, c.turned-place.ensures.small) in
    rw (c.map_shades.ensures, get_or-map (shade_of c.object_palette.result) c.row-colours.result c.turned-place.result 0 0 within, c.object_palette.ensures) refl

pub loop-across-preserved : goal.loop-across-preserved
loop-across-preserved c =
    let s = c.args.self.now in
    let vram = c.args.tiles.now in
    let o : Object = get_or c.args.selected.now c.args.index record { y = 0; x = 0; tile = 0; attributes = 0 } in
    let rest : List Object = drop (c.args.index + 1) c.args.selected.now in
    let all : List Object = drop c.args.index c.args.selected.now in
    let across = c.loop-across.across in
    let split : all ≡ o ∷ rest = rw add-one (drop-cons c.args.selected.now c.args.index _ c.requires.index_in) in
    let same : c.row-colours.new.self ≡ vram = c.row-colours.ensures.kept in
    let column : c.turned-place.result ≡ (if has_bit o.attributes 5 then 7 - across else across) = c.turned-place.ensures.value ∙ ap (λ b. if b then 7 - across else across) c.has_bit-is_flipped.ensures in
    let row : c.object_row.result ≡ object_row s o = c.object_row.ensures.value in
    let read : get_or c.row-colours.result c.turned-place.result 0 ≡ row_colour vram c.object_row.result c.turned-place.result = rw c.row-colours.ensures.value (get_or-tile_row vram c.object_row.result c.turned-place.result c.turned-place.ensures.small) in
    record {
      put = rw same (layered-put s vram all rest c.loop-across.overlay.shades c.loop-across.overlay.fronts c.put_pixel.new.overlay.shades c.put_pixel.new.overlay.fronts o.x across
          c.put_pixel.ensures.shades c.put_pixel.ensures.fronts (rw (← same) c.loop-across.invariant.put)
          (λ x h at.
          let colour : get_or c.row-colours.result c.turned-place.result 0 ≡ object_colour s vram x o =
          read ∙ (ap (λ n. row_colour vram n c.turned-place.result) row ∙ (ap (λ n. row_colour vram (object_row s o) n) column ∙ sym (object_colour-at s vram x o across c.loop-across-test.true at))) in
          let before : IsLayered s vram rest c.loop-across.overlay.shades c.loop-across.overlay.fronts x = rw (← same) (c.loop-across.invariant.left x h (omega (arith, at))) in
          rw split (c.put_pixel.ensures.put vram rest x at colour (c.requires.background x h) before)));
      left = rw same (layered-left s vram all rest c.loop-across.overlay.shades c.loop-across.overlay.fronts c.put_pixel.new.overlay.shades c.put_pixel.new.overlay.fronts o.x across
          c.put_pixel.ensures.shades c.put_pixel.ensures.fronts (rw (← same) c.loop-across.invariant.left));
    }

pub returns-clause-layered : goal.returns-clause-layered
returns-clause-layered c x h =
    let s = c.args.self.now in
    let vram = c.args.tiles.now in
    let o : Object = get_or c.args.selected.now c.args.index record { y = 0; x = 0; tile = 0; attributes = 0 } in
    let rest : List Object = drop (c.args.index + 1) c.args.selected.now in
    let split : drop c.args.index c.args.selected.now ≡ o ∷ rest = rw add-one (drop-cons c.args.selected.now c.args.index _ c.requires.index_in) in
    let same : c.row-colours.new.self ≡ vram = c.row-colours.ensures.kept in
    elim (cases_lt (x + 8) (o.x + c.loop-across.across)) [
      | inl before ↦ rw (← same) (c.loop-across.invariant.put x h before)
      | inr after ↦
          let old : IsLayered s vram rest c.loop-across.overlay.shades c.loop-across.overlay.fronts x = rw (← same) (c.loop-across.invariant.left x h after) in
          rw split (IsLayered-unseen s vram x o rest _ _ old (object_colour-right s vram x o (omega arith)))
    ]
