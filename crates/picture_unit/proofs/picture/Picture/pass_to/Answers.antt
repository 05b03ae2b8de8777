use Rattle.std.proofs.Common.{◌≡◌, ◌-◌, ℕ, ap, sym, arith}
use Rattle.picture_unit.specs.Picture.{PictureUnit, ticks, unrequested}
use Rattle.picture_unit.specs.Laws.{frame_cycle}
use Rattle.picture_unit.proofs.picture.Picture.pass_to.Goals as goal

pub returns-else-now-here : goal.returns-else-now-here
unfolding unrequested
returns-else-now-here c =
    let here : frame_cycle c.self.inside.state ≡ frame_cycle c.args.self.now.state = ap (λ (u : PictureUnit). frame_cycle u.state) c.self.view_is in
    let none : c.args.now - frame_cycle c.args.self.now.state ≡ 0 = omega (arith, c.if-now-here.false, c.frame_cycle-here.ensures, here) in
    sym (ap (λ (k : ℕ). (ticks k c.args.self.now).picture) none)
