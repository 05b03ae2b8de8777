use Rattle.std.proofs.Common.{◌≡◌, ℕ, ◌-◌, sym, ap, ◌∙◌}
use Rattle.timer_unit.specs.declared.timer.TimerState.{TimerState}
use Rattle.timer_unit.specs.Timer.{ticks}
use Rattle.memory_map.specs.LateTimer.{running}
use Rattle.memory_map.proofs.QuietCycles.{goes_on}
use Rattle.memory_map.proofs.late_timer.LateTimer.copy_at.Goals as goal

pub returns : goal.returns
returns c =
    let l = c.args.self.now in
    let late : c.from.result ≡ c.args.now - l.at = c.from.ensures ∙ c.saturating_sub.ensures in
    c.pass.ensures.state
    ∙ ap (λ (t : TimerState). (ticks c.from.result t).timer) (c.restore.ensures ∙ c.state.ensures.state)
    ∙ ap (λ (k : ℕ). (ticks k l.timer).timer) late
    ∙ sym (goes_on (c.args.now - l.at) (running l))
