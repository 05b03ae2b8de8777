use Rattle.std.proofs.Common.{arith}
use Rattle.picture_unit.proofs.LatePictures.{mode_0_off, not_mode_0}
use Rattle.picture_unit.proofs.state.PictureState.mode_0_begins.Goals as goal
use Rattle.picture_unit.proofs.state.PictureState.mode_0_begins.Goals.{then-self-eq0-via-then-self-eq0, then-self-eq0-via-else-self-eq0+then-self-ge144}

pub returns-then-self-eq0-clause-first : goal.returns-then-self-eq0-clause-first
returns-then-self-eq0-clause-first c ly m_cycle few after before =
    elim c.then-self-eq0.branch [
      | then-self-eq0-via-then-self-eq0 w ↦ mode_0_off c.args.self.now ly m_cycle w.if-self-eq0.true
      | then-self-eq0-via-else-self-eq0+then-self-ge144 w ↦ let ge = w.if-self-ge144.true in not_mode_0 c.args.self.now ly m_cycle (λ at. omega (arith, at, after, ge))
    ]

pub returns-then-self-lt63-clause-first : goal.returns-then-self-lt63-clause-first
returns-then-self-lt63-clause-first c ly m_cycle few after before = not_mode_0 c.args.self.now ly m_cycle (λ at. let e = c.from.ensures in omega (arith, at, after, before, e))

pub returns-else-self-lt63-clause-first : goal.returns-else-self-lt63-clause-first
returns-else-self-lt63-clause-first c ly m_cycle few after before =
    not_mode_0 c.args.self.now ly m_cycle (λ at.
    let e = c.from.ensures in
    let ge = c.if-self-lt63.false in
    omega (arith, at, after, before, e, ge))
