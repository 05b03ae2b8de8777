use Rattle.std.proofs.Common.{sym, ◌∙◌, arith}
use Rattle.picture_lines.proofs.Layering.{IsLayered-unseen, IsLayered-loses, IsLayered-put}
use Rattle.picture_lines.proofs.registers.LineRegisters.put_pixel.Goals as goal

pub returns-then-colour-eq0-clause-put : goal.returns-then-colour-eq0-clause-put
returns-then-colour-eq0-clause-put c vram rest x place is ground old =
    IsLayered-unseen c.args.self.now vram x c.args.object.now rest _ _ old (sym is ∙ c.if-colour-eq0.true)

pub returns-then-overlay-at-clause-put : goal.returns-then-overlay-at-clause-put
returns-then-overlay-at-clause-put c vram rest x place is ground old =
    IsLayered-loses c.args.self.now vram x c.args.object.now rest _ _ old (λ e. c.if-colour-eq0.false (is ∙ e)) (rw (← place) c.if-overlay-at.true) (omega arith)

pub returns-clause-put : goal.returns-clause-put
returns-clause-put c vram rest x place is ground old =
    let put = IsLayered-put c.args.self.now vram x c.args.object.now rest c.args.background.now.colours c.args.background.now.shades c.args.overlay.now.shades c.args.overlay.now.fronts c.args.at c.args.colour c.args.shade
    place (omega arith) (omega arith) is c.requires.shade c.if-colour-eq0.false c.if-overlay-at.false ground old
    in rw c.shade_over.ensures.value put
