use Rattle.std.proofs.Common.{◌≡◌, ℕ, ◌-◌, ap, ◌∙◌}
use Rattle.std.specs.Fn.{iterate}
use Rattle.timer_unit.specs.Timer.{tick}
use Rattle.memory_map.specs.LateTimer.{running, caught_up_at}
use Rattle.memory_map.proofs.late_timer.LateTimer.catch_up.Goals as goal

pub returns : goal.returns
returns c =
    let l = c.args.self.now in
    let late : c.from.result ≡ c.args.now - l.at = c.from.ensures ∙ c.saturating_sub.ensures in
    c.pass_all.ensures ∙ ap (λ (k : ℕ). caught_up_at c.args.at (iterate tick k (running l))) late
