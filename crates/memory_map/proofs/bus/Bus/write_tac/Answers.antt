use Rattle.std.proofs.Common.{refl, ap, ◌∙◌, arith}
use Rattle.std.specs.Prelude.{◌%◌}
use Rattle.timer_unit.specs.Timer.{TimerAndRequest, with_counter_and_tac}
use Rattle.memory_map.specs.declared.late_timer.LateTimer.{LateTimer}
use Rattle.memory_map.specs.State.{BusState}
use Rattle.memory_map.specs.contracts.bus.Bus.{the_view}
use Rattle.memory_map.proofs.LateTimers.{caught_up}
use Rattle.memory_map.proofs.LateBus.{consistent_now}
use Rattle.memory_map.proofs.QuietCycles.{counter_set}
use Rattle.memory_map.proofs.bus.Bus.write_tac.Goals as goal

pub invariant_of-self : goal.invariant_of-self
invariant_of-self c =
    let b = the_view c.self.inside in
    let written = with_counter_and_tac b.timer.timer.counter (c.args.value % 8) b.timer in
    let same = ap (λ (t : TimerAndRequest). t.timer.counter) (caught_up c.self.inside.clock c.write_tac.new.self written c.write_tac.ensures) ∙ counter_set b.timer.timer.counter (c.args.value % 8) b.timer in
    consistent_now c.self.inside.clock c.write_tac.new.self _ c.self.invariant.lit (λ off. let low = c.self.invariant.dark off in omega (arith, low, same))
    (ap (λ (l : LateTimer). l.at) c.write_tac.ensures) refl c.self.invariant.wram c.self.invariant.control

pub returns : goal.returns
returns c =
    let b = the_view c.self.inside in
    ap (λ (t : TimerAndRequest). record b { timer = t }) (caught_up c.self.inside.clock c.write_tac.new.self (with_counter_and_tac b.timer.timer.counter (c.args.value % 8) b.timer) c.write_tac.ensures)
    ∙ ap (λ (b : BusState). record b { timer = with_counter_and_tac b.timer.timer.counter (c.args.value % 8) b.timer }) c.self.view_is
