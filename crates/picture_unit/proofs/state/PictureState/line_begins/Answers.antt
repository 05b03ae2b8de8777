use Rattle.std.proofs.Common.{arith, inl, inr}
use Rattle.picture_unit.proofs.LatePictures.{line_off, not_line}
use Rattle.picture_unit.proofs.state.PictureState.line_begins.Goals as goal
use Rattle.picture_unit.proofs.state.PictureState.line_begins.Goals.{then-self-eq0-via-then-self-eq0, then-self-eq0-via-else-self-eq0+then-at-now}

pub returns-then-self-eq0-clause-first : goal.returns-then-self-eq0-clause-first
returns-then-self-eq0-clause-first c ly m_cycle few after before =
    elim c.then-self-eq0.branch [
      | then-self-eq0-via-then-self-eq0 w ↦ line_off c.args.self.now ly m_cycle w.if-self-eq0.true
      | then-self-eq0-via-else-self-eq0+then-at-now w ↦ let le = w.if-at-now.true in not_line c.args.self.now ly m_cycle (λ first. inr (omega (arith, first, after, le)))
    ]

pub returns-clause-first : goal.returns-clause-first
returns-clause-first c ly m_cycle few after before = not_line c.args.self.now ly m_cycle (λ first. inl (omega (arith, first, before)))
