use Rattle.std.proofs.Common.{sym, ◌∙◌}
use Rattle.picture_unit.specs.LateRows.{earlier_vram}
use Rattle.picture_unit.proofs.LateLines.{shown_blank}
use Rattle.picture_unit.proofs.rows.Rows.drawn_rows.Goals as goal

pub returns : goal.returns
returns c = λ vram oam.
    let r = c.args.self.now in
    c.deref.ensures.value
    ∙ sym (shown_blank r.late r.earlier vram oam (earlier_vram r vram) r.earlier_oam.items r.drawn.items (c.requires.late.none c.if-self.false) (c.requires.earlier.none c.if-self-2.false))
