use Rattle.std.proofs.Common.{arith}
use Rattle.picture_unit.proofs.LatePictures.{mode_2_off, not_mode_2}
use Rattle.picture_unit.proofs.state.PictureState.mode_2_begins.Goals as goal
use Rattle.picture_unit.proofs.state.PictureState.mode_2_begins.Goals.{then-self-eq0-via-then-self-eq0, then-self-eq0-via-else-self-eq0+then-self-ge143}

pub returns-then-self-eq0-clause-first : goal.returns-then-self-eq0-clause-first
returns-then-self-eq0-clause-first c ly m_cycle few after before =
    elim c.then-self-eq0.branch [
      | then-self-eq0-via-then-self-eq0 w ↦ mode_2_off c.args.self.now ly m_cycle w.if-self-eq0.true
      | then-self-eq0-via-else-self-eq0+then-self-ge143 w ↦ let ge = w.if-self-ge143.true in not_mode_2 c.args.self.now ly m_cycle (λ first. omega (arith, first, after, ge))
    ]

pub returns-clause-first : goal.returns-clause-first
returns-clause-first c ly m_cycle few after before = not_mode_2 c.args.self.now ly m_cycle (λ first. let e = c.from.ensures in omega (arith, first, after, before, e))
