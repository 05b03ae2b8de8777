use Rattle.std.proofs.Common.{◌≡◌, ◌∙◌, rules}
use Rattle.std.specs.Prelude.{replicate}
use Rattle.std.proofs.lemmas.List.Elements.{same_from_all_zip}
use Rattle.picture_unit.specs.Picture.{blank_rows}
use Rattle.picture_unit.proofs.LateLines.{shown_blank}
use Rattle.picture_unit.proofs.rows.Rows.new.Goals as goal

pub returns-clause-blank : goal.returns-clause-blank
unfolding blank_rows
returns-clause-blank c = λ vram oam.
    let blank : c.in_ok-drawn.drawn.items ≡ replicate 144 (replicate 160 0) = c.in_ok-drawn.ensures.items_if_clones_equal (λ y h. search (rules, same_from_all_zip)) in
    shown_blank c.none-late.result c.none-earlier.result vram oam c.in_ok-earlier_tiles.earlier_tiles c.in_ok-earlier_oam.earlier_oam.items c.in_ok-drawn.drawn.items c.none-late.ensures.none c.none-earlier.ensures.none ∙ blank
