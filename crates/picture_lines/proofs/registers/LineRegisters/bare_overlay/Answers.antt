use Rattle.std.proofs.Common.{◌+◌, ℕ, arith}
use Rattle.std.proofs.lemmas.Simd.{get_or-replicate}
use Rattle.picture_lines.proofs.Layering.{IsLayered-none}
use Rattle.picture_lines.proofs.registers.LineRegisters.bare_overlay.Goals as goal

pub returns : goal.returns
returns c vram x h ground =
    let fronts = get_or-replicate {A = ℕ} 176 (x + 8) 255 0 (omega arith) in
    IsLayered-none c.args.self.now vram c.args.background.now.colours c.args.background.now.shades _ x fronts ground
