use Rattle.std.proofs.Common.{◌≡◌, ℕ, ◌<◌, ◌≤◌, ◌+◌, ◌-◌, ◌*◌, ◌^◌, subst}
use Rattle.timer_unit.specs.declared.timer.TimerState.{TimerState}
use Rattle.timer_unit.specs.Timer.{selected_bit}
use Rattle.timer_unit.specs.TimerJump.{falls_in}
use Rattle.timer_unit.proofs.Overflow.{counted_below, none_below}
use Rattle.timer_unit.proofs.timer.Timer.cycles_below_overflow.Goals as goal

pub returns-then-self-lt4-clause-below : goal.returns-then-self-lt4-clause-below
returns-then-self-lt4-clause-below c = λ n le.
    subst (λ (t : TimerState). t.tima + falls_in t.tac t.counter n < 256) c.self.view_is
    (none_below c.self.inside.state.tac c.self.inside.state.counter n c.self.inside.state.tima c.self.invariant.tima c.if-self-lt4.true)

pub returns-clause-below : goal.returns-clause-below
returns-clause-below c = λ n le.
    let t = c.args.self.now in
    let m = c.cycles_of_counts.result in
    let e = subst (λ (u : TimerState). 4 * m ≡ 2 * 2 ^ selected_bit t.tac * (255 - u.tima)) c.self.view_is c.cycles_of_counts.ensures.cycles in
    let few = subst (λ (d : ℕ). n ≤ d - 1 + m) c.cycles_to_fall.ensures.cycles le in
    counted_below t.tac t.counter n t.tima m (subst (λ (u : TimerState). u.tima < 256) c.self.view_is c.self.invariant.tima) e few
