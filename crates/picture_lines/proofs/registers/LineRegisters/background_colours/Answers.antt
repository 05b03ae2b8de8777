use Rattle.std.proofs.Common.{◌≡◌, ◌+◌, ◌-◌, ◌%◌, true, false, ap, sym, ◌∙◌, inl, inr, arith}
use Rattle.std.specs.Prelude.{nat_le, ◌&&◌}
use Rattle.std.proofs.lemmas.Bool.{cases_lt}
use Rattle.picture_lines.specs.Bits.{has_bit}
use Rattle.picture_lines.specs.Pixel.{is_window_drawn, map_colour, map_start}
use Rattle.picture_lines.proofs.Backgrounds.{zeros-read, zeros-small, background_colour-off, background_colour-map, background_colour-window, scrolled, in_window}
use Rattle.picture_lines.proofs.registers.LineRegisters.background_colours.Goals as goal

pub returns-then-not-has_bit-clause-small : goal.returns-then-not-has_bit-clause-small
returns-then-not-has_bit-clause-small c = zeros-small 176

pub returns-then-not-has_bit-clause-colours : goal.returns-then-not-has_bit-clause-colours
returns-then-not-has_bit-clause-colours c x h =
    let off : has_bit c.args.self.now.lcdc 0 ≡ false = cc in
    zeros-read 176 (x + 8) 0 (omega arith) ∙ sym (background_colour-off c.args.self.now c.args.tiles.now x off)

pub put_map-requires-clause-small : goal.put_map-requires-clause-small
put_map-requires-clause-small c = zeros-small 176

pub returns-then-is_window_drawn-clause-colours : goal.returns-then-is_window_drawn-clause-colours
returns-then-is_window_drawn-clause-colours c x h =
    let s = c.args.self.now in
    let vram = c.args.tiles.now in
    let on : has_bit s.lcdc 0 ≡ true = cc in
    let drawn : is_window_drawn s ≡ true = cc in
    let kept : c.put_map.new.tiles ≡ vram = c.put_map.ensures.tiles in
    elim (cases_lt (x + 7) s.wx) [
      | inl left_of ↦
          let outside : nat_le s.wx (x + 7) ≡ false = grind arith in
          let test : (is_window_drawn s && nat_le s.wx (x + 7)) ≡ false = rw (drawn, outside) in
          c.put_map-then-is_window_drawn.ensures.kept (x + 8) (omega arith)
          ∙ (c.put_map.ensures.put (x + 8) (omega arith) (omega arith)
          ∙ (ap (λ n. map_colour s.lcdc vram n ((s.scx - s.scx % 8 + (x + 8 - (8 - s.scx % 8))) % 256) ((s.scy + s.ly) % 256)) c.map_start.ensures.value
          ∙ (ap (λ n. map_colour s.lcdc vram (map_start s.lcdc 3) n ((s.scy + s.ly) % 256)) (scrolled s.scx x)
          ∙ sym (background_colour-map s vram x on test))))
      | inr within ↦
          c.put_map-then-is_window_drawn.ensures.put (x + 8) (omega arith) (omega arith)
          ∙ (ap (λ v. map_colour s.lcdc v c.map_start-then-is_window_drawn.result ((0 + (x + 8 - (s.wx + 1))) % 256) s.window_counter) kept
          ∙ (ap (λ n. map_colour s.lcdc vram n ((0 + (x + 8 - (s.wx + 1))) % 256) s.window_counter) c.map_start-then-is_window_drawn.ensures.value
          ∙ (ap (λ n. map_colour s.lcdc vram (map_start s.lcdc 6) n s.window_counter) (in_window s.wx x h within)
          ∙ sym (background_colour-window s vram x on drawn within))))
    ]

pub returns-else-is_window_drawn-clause-colours : goal.returns-else-is_window_drawn-clause-colours
returns-else-is_window_drawn-clause-colours c x h =
    let s = c.args.self.now in
    let vram = c.args.tiles.now in
    let on : has_bit s.lcdc 0 ≡ true = cc in
    let none : is_window_drawn s ≡ false = cc in
    let test : (is_window_drawn s && nat_le s.wx (x + 7)) ≡ false = rw none in
    c.put_map.ensures.put (x + 8) (omega arith) (omega arith)
    ∙ (ap (λ n. map_colour s.lcdc vram n ((s.scx - s.scx % 8 + (x + 8 - (8 - s.scx % 8))) % 256) ((s.scy + s.ly) % 256)) c.map_start.ensures.value
    ∙ (ap (λ n. map_colour s.lcdc vram (map_start s.lcdc 3) n ((s.scy + s.ly) % 256)) (scrolled s.scx x)
    ∙ sym (background_colour-map s vram x on test)))
