use Rattle.std.proofs.Common.{◌≡◌, ◌<◌, ◌+◌, get_or, sym, ◌∙◌, true, false, arith}
use Rattle.picture_lines.specs.Bits.{has_bit}
use Rattle.picture_lines.proofs.Backgrounds.{IsBackground-on, IsBackground-off, background_shade-own}
use Rattle.picture_lines.proofs.registers.LineRegisters.background_shades.Goals as goal
use Rattle.picture_lines.proofs.registers.LineRegisters.background_shades.Goals.{else-has_bit-via-then-has_bit+else-self, else-has_bit-via-else-has_bit}

pub returns-then-self-clause-shades : goal.returns-then-self-clause-shades
returns-then-self-clause-shades c x h =
    let on : has_bit c.args.self.now.lcdc 0 ≡ true = cc in
    let same = IsBackground-on c.args.self.now c.args.tiles.now x c.background_colours-colours.result (omega arith) on (c.background_colours-colours.ensures.colours x h) in
    rw c.map_shades.ensures same.shade

pub returns-else-has_bit-clause-shades : goal.returns-else-has_bit-clause-shades
returns-else-has_bit-clause-shades c x h =
    let s = c.args.self.now in
    let vram = c.args.tiles.now in
    let colours = c.background_colours-colours.result in
    let right = c.background_colours-colours.ensures.colours x h in
    elim c.else-has_bit.branch [
      | else-has_bit-via-then-has_bit+else-self w ↦
          let on : has_bit s.lcdc 0 ≡ true = sym c.has_bit.ensures ∙ w.if-has_bit.true in
          let own : s.bgp ≡ 228 = grind (arith, w.if-self) in
          let small : get_or colours (x + 8) 0 < 4 = c.background_colours-colours.ensures.small (x + 8) 0 (omega arith) in
          background_shade-own s vram x (get_or colours (x + 8) 0) small on own right
      | else-has_bit-via-else-has_bit w ↦
          let off : has_bit s.lcdc 0 ≡ false = sym c.has_bit.ensures ∙ w.if-has_bit.false in
          (IsBackground-off s vram x colours off right).shade
    ]
