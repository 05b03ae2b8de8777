use Rattle.std.proofs.Common.{◌≡◌, ◌<◌, true, false, ap, sym, ◌∙◌, arith}
use Rattle.picture_unit.specs.Picture.{PictureUnit, PictureAndRequests, is_on, unrequested}
use Rattle.picture_unit.specs.PictureJump.{next_change}
use Rattle.picture_unit.proofs.Quiet.{ticks_when_off, skips_before}
use Rattle.picture_unit.proofs.picture.Picture.pass.Goals as goal

pub returns-then-not-is_on : goal.returns-then-not-is_on
unfolding unrequested
returns-then-not-is_on c =
    let off : is_on c.self.inside.state ≡ false = cc in
    let same = sym (ticks_when_off c.args.cycles c.self.inside.state c.args.self.now (ap (λ (s : PictureUnit). s.state) c.self.view_is) off) in
    record {
      picture = ap (λ (d : PictureAndRequests). d.picture) same;
      vblank = ap (λ (d : PictureAndRequests). d.vblank) same;
      stat = ap (λ (d : PictureAndRequests). d.stat) same;
    }

pub returns-then-cycles-from : goal.returns-then-cycles-from
unfolding unrequested
returns-then-cycles-from c =
    let on : is_on c.self.inside.state ≡ true = sym c.is_on.ensures ∙ c.if-not-is_on.false in
    let before : c.args.cycles < next_change c.self.inside.state = omega (arith, c.change_at.ensures.change, c.from.ensures, c.if-cycles-from.true) in
    let same = skips_before c.args.cycles c.self.inside.state c.args.self.now _ (ap (λ (s : PictureUnit). s.state) c.self.view_is) on before c.skip.ensures in
    record {
      picture = ap (λ (d : PictureAndRequests). d.picture) same;
      vblank = ap (λ (d : PictureAndRequests). d.vblank) same;
      stat = ap (λ (d : PictureAndRequests). d.stat) same;
    }
