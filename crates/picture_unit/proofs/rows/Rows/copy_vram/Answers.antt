use Rattle.std.proofs.Common.{◌≡◌, ◌∙◌, sym, ap, cond, Bool, true, false, List, ℕ}
use Rattle.picture_unit.specs.LateRows.{with_late, earlier_vram}
use Rattle.picture_unit.proofs.LateLines.{shown_as_is}
use Rattle.picture_unit.proofs.rows.Rows.copy_vram.Goals as goal

pub returns-then-not-self-clause-vram : goal.returns-then-not-self-clause-vram
returns-then-not-self-clause-vram c = λ rows.
    let r = c.args.self.now in
    let other : r.has_same_vram ≡ false = cc in
    sym (ap (λ (b : Bool). with_late r.earlier (cond b c.args.tiles.now r.earlier_tiles) r.earlier_oam.items rows) other)

pub returns-then-self-clause-vram : goal.returns-then-self-clause-vram
returns-then-self-clause-vram c = λ rows.
    let r = c.args.self.now in
    let same : r.has_same_vram ≡ true = cc in
    ap (λ (v : List ℕ). with_late r.earlier v r.earlier_oam.items rows) (c.fill.ensures ∙ c.bytes.ensures.bytes)
    ∙ sym (ap (λ (b : Bool). with_late r.earlier (cond b c.args.tiles.now r.earlier_tiles) r.earlier_oam.items rows) same)

pub returns-else-self-clause-vram : goal.returns-else-self-clause-vram
returns-else-self-clause-vram c = λ rows.
    let r = c.args.self.now in
    shown_as_is r.earlier r.earlier_tiles r.earlier_oam.items rows (c.requires.lines.none c.if-self.false)
    ∙ sym (shown_as_is r.earlier (earlier_vram r c.args.tiles.now) r.earlier_oam.items rows (c.requires.lines.none c.if-self.false))
