use Rattle.std.proofs.Common.{◌≡◌, ◌+◌, ◌∙◌, ℕ, [], drop, get_or, length, eqb-true, sym, ap, subst, arith}
use Rattle.std.proofs.lemmas.List.{nil_from_length, drop_all, get_or-take, get_or-drop}
use Rattle.picture_lines.specs.Pixel.{shade_at}
use Rattle.picture_lines.specs.Layers.{IsLayered}
use Rattle.picture_lines.proofs.Layering.{shade_at-none}
use Rattle.picture_lines.proofs.registers.LineRegisters.draw_selected.Goals as goal

pub loop-index-init : goal.loop-index-init
loop-index-init c = record {
  within = omega arith;
  same = c.background-background.ensures.tiles;
  layered = λ x h.
      let none : drop (length c.args.selected.now) c.args.selected.now ≡ [] = drop_all (length c.args.selected.now) c.args.selected.now (omega arith) in
      rw (c.background-background.ensures.tiles, none) (c.bare_overlay-overlay.ensures c.args.tiles.now x h (c.background-background.ensures.columns x h));
}

pub returns-then-is_empty-clause-shades : goal.returns-then-is_empty-clause-shades
returns-then-is_empty-clause-shades c x h =
    let s = c.args.self.now in
    let vram = c.args.tiles.now in
    let items = c.args.selected.now in
    let none = nil_from_length items (eqb-true (length items) 0 (sym c.is_empty.ensures ∙ c.if-is_empty.true)) in
    c.draw_background.ensures.shades x h
    ∙ (sym (shade_at-none s vram x) ∙ ap (λ l. shade_at s vram l x) (sym none))

pub returns-clause-shades : goal.returns-clause-shades
returns-clause-shades c x h =
    let s = c.args.self.now in
    let items = c.args.selected.now in
    let last : c.loop-index.index ≡ 0 = omega arith in
    let P : ℕ → Type 0 = λ n. IsLayered s c.loop-index.tiles (drop n items) c.loop-index.overlay.shades c.loop-index.overlay.fronts x in
    let done : IsLayered s c.loop-index.tiles items c.loop-index.overlay.shades c.loop-index.overlay.fronts x = subst P last (c.loop-index.invariant.layered x h) in
    let place : 8 + x ≡ x + 8 = omega arith in
    let read : get_or c.copy_from_slice.new.self x 0 ≡ get_or c.loop-index.overlay.shades (x + 8) 0 =
    rw (c.copy_from_slice.ensures.after, get_or-take 160 (drop 8 c.loop-index.overlay.shades) x 0 h, get_or-drop 8 c.loop-index.overlay.shades x 0, place) in
    read ∙ (done.shade ∙ ap (λ v. shade_at s v items x) c.loop-index.invariant.same)
