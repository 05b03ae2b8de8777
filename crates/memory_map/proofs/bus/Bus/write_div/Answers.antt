use Rattle.std.proofs.Common.{refl, ap, ◌∙◌, arith}
use Rattle.timer_unit.specs.Timer.{TimerAndRequest, with_counter_and_tac}
use Rattle.memory_map.specs.declared.late_timer.LateTimer.{LateTimer}
use Rattle.memory_map.specs.State.{BusState}
use Rattle.memory_map.specs.contracts.bus.Bus.{the_view}
use Rattle.memory_map.proofs.LateTimers.{caught_up}
use Rattle.memory_map.proofs.LateBus.{consistent_now}
use Rattle.memory_map.proofs.bus.Bus.write_div.Goals as goal

pub invariant_of-self : goal.invariant_of-self
invariant_of-self c =
    consistent_now c.clock_of-clock.result c.write_div.new.self _ c.clock_of-clock.ensures.lit
    (λ off. let none = c.clock_of-clock.ensures.dark off in omega (arith, none))
    (ap (λ (l : LateTimer). l.at) c.write_div.ensures) refl c.self.invariant.wram c.self.invariant.control

pub returns : goal.returns
returns c =
    let b = the_view c.self.inside in
    ap (λ (t : TimerAndRequest). record b { timer = t }) (caught_up c.clock_of-clock.result c.write_div.new.self (with_counter_and_tac 0 b.timer.timer.tac b.timer) c.write_div.ensures)
    ∙ ap (λ (b : BusState). record b { timer = with_counter_and_tac 0 b.timer.timer.tac b.timer }) c.self.view_is
