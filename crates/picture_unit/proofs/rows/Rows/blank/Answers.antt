use Rattle.std.proofs.Common.{◌≡◌, ℕ, List, length, ap, ◌∙◌, arith}
use Rattle.std.specs.Prelude.{replicate}
use Rattle.std.specs.Vec.{with_items}
use Rattle.std.proofs.lemmas.List.{with_items_is, length-replicate}
use Rattle.picture_unit.specs.Picture.{blank_rows}
use Rattle.picture_unit.specs.LateRows.{earlier_vram}
use Rattle.picture_unit.proofs.LateLines.{shown_blank}
use Rattle.picture_unit.proofs.rows.Rows.blank.Goals as goal

pub returns-clause-rows : goal.returns-clause-rows
unfolding blank_rows
returns-clause-rows c = λ vram oam.
    let r = c.args.self.now in
    let blank : c.blank.new.rows ≡ replicate 144 (replicate 160 0) =
    c.blank.ensures ∙ ap (λ (n : ℕ). replicate n (replicate 160 0)) (ap length c.deref_mut.ensures.value ∙ c.requires.row_count) in
    let row : List ℕ = replicate 160 0 in
    let count : length (replicate 144 row) ≡ 144 = length-replicate 144 row in
    let size : length c.blank.new.rows ≡ r.drawn.len = omega (arith, r.drawn.ok.0, c.requires.row_count, ap length blank, count) in
    shown_blank c.none-self.result c.none-self-2.result vram oam (earlier_vram r vram) r.earlier_oam.items (with_items r.drawn c.blank.new.rows).items c.none-self.ensures.none c.none-self-2.ensures.none
    ∙ (with_items_is r.drawn c.blank.new.rows size ∙ blank)
