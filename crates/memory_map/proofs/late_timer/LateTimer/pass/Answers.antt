use Rattle.std.proofs.Common.{◌≡◌, ℕ, ◌+◌, ◌-◌, ap, ◌∙◌}
use Rattle.std.specs.Fn.{iterate}
use Rattle.repeated_steps.proofs.Iterates.{iterate-add}
use Rattle.timer_unit.specs.Timer.{tick}
use Rattle.memory_map.specs.LateTimer.{running, caught_up_at}
use Rattle.memory_map.proofs.late_timer.LateTimer.pass.Goals as goal

pub returns : goal.returns
returns c =
    let l = c.args.self.now in
    let late : c.from-late.result ≡ c.args.now - l.at = c.from-late.ensures ∙ c.saturating_sub.ensures in
    c.pass_all-2.ensures ∙ ap (λ (k : ℕ). caught_up_at c.args.at (iterate tick (k + c.args.cycles) (running l))) late
    ∙ ap (caught_up_at c.args.at) (iterate-add tick (c.args.now - l.at) c.args.cycles (running l))
