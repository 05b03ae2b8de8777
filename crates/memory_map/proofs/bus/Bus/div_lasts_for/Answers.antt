use Rattle.std.proofs.Common.{◌≡◌, ◌-◌, ◌/◌, ◌%◌, ◌∙◌, ap, subst}
use Rattle.timer_unit.specs.declared.timer.TimerState.{TimerState}
use Rattle.memory_map.specs.Lasting.{LastsFor}
use Rattle.memory_map.specs.contracts.bus.Bus.{the_view}
use Rattle.memory_map.proofs.LastingFor.{div_lasts}
use Rattle.memory_map.proofs.bus.Bus.div_lasts_for.Goals as goal

pub returns : goal.returns
returns c =
    let b = the_view c.self.inside in
    let t = c.state-state in
    let same : t.result.counter ≡ b.timer.timer.counter = ap (λ (t : TimerState). t.counter) (t.ensures.state ∙ c.copy_at.ensures) in
    subst (LastsFor (63 - t.result.counter / 4 % 64) 0xFF04) c.self.view_is (div_lasts t.result.counter b same t.ensures.legal.counter)
