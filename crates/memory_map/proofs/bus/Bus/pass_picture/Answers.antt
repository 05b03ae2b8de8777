use Rattle.std.proofs.Common.{refl, ap, ◌∙◌, arith}
use Rattle.std.specs.Fn.{iterate}
use Rattle.std.specs.Prelude.{◌||◌}
use Rattle.timer_unit.specs.Timer as timer
use Rattle.memory_map.specs.declared.late_timer.LateTimer.{LateTimer}
use Rattle.memory_map.specs.Ticks.{tick_picture}
use Rattle.memory_map.specs.contracts.bus.Bus.{the_view}
use Rattle.memory_map.proofs.LateTimers.{caught_up}
use Rattle.memory_map.proofs.LateBus.{consistent_now}
use Rattle.memory_map.proofs.UnitRuns.{picture_passed}
use Rattle.memory_map.proofs.bus.Bus.pass_picture.Goals as goal

pub invariant_of-self : goal.invariant_of-self
invariant_of-self c =
    consistent_now c.clock_of-clock.result c.catch_up.new.self _ c.clock_of-clock.ensures.lit
    (λ off. let none = c.clock_of-clock.ensures.dark off in omega (arith, none))
    (ap (λ (l : LateTimer). l.at) c.catch_up.ensures) refl c.self.invariant.wram c.self.invariant.control

pub returns : goal.returns
returns c =
    let b = the_view c.self.inside in
    let r = c.pass-requests.result in
    ap (λ (t : timer.TimerAndRequest). record b { timer = t; picture = record { picture = c.pass-requests.new.self; vblank = b.picture.vblank || r.vblank; stat = b.picture.stat || r.stat } })
    (caught_up c.clock_of-clock.result c.catch_up.new.self b.timer c.catch_up.ensures)
    ∙ picture_passed c.args.cycles b c.pass-requests.new.self r.vblank r.stat c.pass-requests.ensures.picture c.pass-requests.ensures.vblank c.pass-requests.ensures.stat
    ∙ ap (iterate tick_picture c.args.cycles) c.self.view_is
