use Rattle.std.proofs.Common.{◌≡◌, ◌-◌, ℕ, true, sym, subst, ◌∙◌, arith}
use Rattle.picture_unit.specs.Picture.{is_on, stat_signal}
use Rattle.picture_unit.specs.Quiet.{AreQuiet}
use Rattle.picture_unit.proofs.LatePictures.{quiet_before_source, same_bool}
use Rattle.picture_unit.proofs.state.PictureState.quiet.Goals as goal

pub returns-clause-quiet : goal.returns-clause-quiet
returns-clause-quiet c =
    let p = c.args.self.now in
    let next = c.min-2.result in
    let on : is_on p ≡ true = sym c.is_on.ensures ∙ c.if-not-is_on.false in
    let steady : stat_signal p ≡ p.signal = sym c.stat_signal.ensures ∙ same_bool _ _ c.if-stat_signal-self.false in
    let here = c.frame_cycle-now.ensures in
    let a = c.min.ensures in
    let b = c.min-source.ensures in
    let e = c.min-2.ensures in
    let line = c.line_begins.ensures.ahead in
    let mode_2 = c.mode_2_begins.ensures.ahead in
    let mode_0 = c.mode_0_begins.ensures.ahead in
    let other = c.vblank_or_end.ensures.ahead in
    let within = c.vblank_or_end.ensures.within in
    subst (λ (now : ℕ). AreQuiet (next - 1 - now) p) (sym here)
    (quiet_before_source next p c.requires on steady (omega (arith, here, a, b, e, line, mode_2, mode_0, other)) (omega (arith, e, within))
    (λ before. let le = c.vblank_or_end.ensures.vblank before in omega (arith, e, le))
    (λ l m few after before. c.line_begins.ensures.first l m few (omega (arith, after, here)) (omega (arith, before, a, b, e)))
    (λ l m few after before. c.mode_2_begins.ensures.first l m few after (omega (arith, before, a, b, e)))
    (λ l m few after before. c.mode_0_begins.ensures.first l m few after (omega (arith, before, b, e))))
