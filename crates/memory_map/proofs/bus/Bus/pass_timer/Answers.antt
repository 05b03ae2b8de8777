use Rattle.std.proofs.Common.{refl, ap, ◌∙◌, arith}
use Rattle.std.specs.Fn.{iterate}
use Rattle.timer_unit.specs.Timer as timer
use Rattle.memory_map.specs.declared.late_timer.LateTimer.{LateTimer}
use Rattle.memory_map.specs.Ticks.{tick_timer}
use Rattle.memory_map.specs.contracts.bus.Bus.{the_view}
use Rattle.memory_map.proofs.LateTimers.{caught_up}
use Rattle.memory_map.proofs.LateBus.{consistent_now}
use Rattle.memory_map.proofs.UnitRuns.{timers_tick}
use Rattle.memory_map.proofs.bus.Bus.pass_timer.Goals as goal

pub invariant_of-self : goal.invariant_of-self
invariant_of-self c =
    consistent_now c.clock_of-clock.result c.pass.new.self _ c.clock_of-clock.ensures.lit
    (λ off. let none = c.clock_of-clock.ensures.dark off in omega (arith, none))
    (ap (λ (l : LateTimer). l.at) c.pass.ensures) refl c.self.invariant.wram c.self.invariant.control

pub returns-clause-ticks : goal.returns-clause-ticks
returns-clause-ticks c =
    let b = the_view c.self.inside in
    ap (λ (t : timer.TimerAndRequest). record b { timer = t }) (caught_up c.clock_of-clock.result c.pass.new.self (iterate timer.tick c.args.cycles b.timer) c.pass.ensures)
    ∙ timers_tick c.args.cycles b ∙ ap (iterate tick_timer c.args.cycles) c.self.view_is
