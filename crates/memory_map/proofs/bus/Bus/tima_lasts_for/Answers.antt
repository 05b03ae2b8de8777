use Rattle.std.proofs.Common.{ℕ, subst, sym}
use Rattle.repeated_steps.specs.NextEvent.{IsNextEvent}
use Rattle.timer_unit.specs.Timer as timer
use Rattle.timer_unit.specs.declared.timer.TimerState.{TimerState}
use Rattle.memory_map.specs.State.{BusState}
use Rattle.memory_map.specs.Lasting.{LastsFor}
use Rattle.memory_map.specs.contracts.bus.Bus.{the_view}
use Rattle.memory_map.proofs.LastingFor.{tima_lasts}
use Rattle.memory_map.proofs.bus.Bus.tima_lasts_for.Goals as goal

pub returns : goal.returns
returns c =
    let b = the_view c.self.inside in
    let next = subst (λ (t : TimerState). IsNextEvent timer.tick timer.signal_falls (timer.unrequested t) c.due.result) c.copy_at.ensures c.due.ensures in
    let at = tima_lasts c.due.result b next in
    subst (λ (d : BusState). LastsFor c.before_fall.result 0xFF05 d) c.self.view_is (subst (λ (n : ℕ). LastsFor n 0xFF05 b) (sym c.before_fall.ensures) at)
