use Rattle.std.proofs.Common.{◌≡◌, true, false, arith}
use Rattle.picture_lines.specs.Bits.{has_bit}
use Rattle.picture_lines.proofs.Backgrounds.{IsBackground-on, IsBackground-off}
use Rattle.picture_lines.proofs.registers.LineRegisters.background.Goals as goal

pub returns-then-has_bit-clause-columns : goal.returns-then-has_bit-clause-columns
returns-then-has_bit-clause-columns c x h =
    let on : has_bit c.args.self.now.lcdc 0 ≡ true = cc in
    rw c.map_shades.ensures (IsBackground-on c.args.self.now c.args.tiles.now x c.background_colours-colours.result (omega arith) on (c.background_colours-colours.ensures.colours x h))

pub returns-else-has_bit-clause-columns : goal.returns-else-has_bit-clause-columns
returns-else-has_bit-clause-columns c x h =
    let off : has_bit c.args.self.now.lcdc 0 ≡ false = cc in
    IsBackground-off c.args.self.now c.args.tiles.now x c.background_colours-colours.result off (c.background_colours-colours.ensures.colours x h)
