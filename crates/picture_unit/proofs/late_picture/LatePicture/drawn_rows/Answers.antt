use Rattle.std.proofs.Common.{◌≡◌, ◌-◌, ◌<◌, ℕ, List, ap, sym, subst, ◌∙◌, arith}
use Rattle.std.specs.Prelude.{All}
use Rattle.std.proofs.lemmas.Option.{IfSome_then}
use Rattle.picture_unit.specs.Picture.{PictureUnit, ticks, unrequested}
use Rattle.picture_unit.specs.Laws.{frame_cycle}
use Rattle.picture_unit.specs.LatePicture.{moment}
use Rattle.picture_unit.proofs.LatePictures.{is_moment}
use Rattle.picture_unit.proofs.late_picture.LatePicture.drawn_rows.Goals as goal

pub returns-clause-rows : goal.returns-clause-rows
unfolding unrequested
returns-clause-rows c =
    let s = c.self.inside.picture in
    let now = moment c.self.inside.frame_cycle s in
    let here = is_moment _ _ _ c.self.invariant _ _ c.self.view_is c.frame_cycle.ensures.now in
    let none : now - frame_cycle s.state ≡ 0 = omega (arith, here, c.if-frame_cycle.false, c.frame_cycle-2.ensures.now) in
    let same : s ≡ c.args.self.now = sym (ap (λ (k : ℕ). (ticks k s).picture) none) ∙ c.self.view_is in
    IfSome_then c.drawn_rows.result c.drawn_rows.ensures (λ rows is. is ∙ ap (λ (u : PictureUnit). u.rows) same)

pub returns-clause-shades : goal.returns-clause-shades
returns-clause-shades c =
    IfSome_then c.drawn_rows.result c.drawn_rows.ensures (λ rows is. subst (λ (x : List (List ℕ)). All (λ row. All (λ shade. shade < 4) row) x) (sym is) c.self.invariant.whole.shades)
