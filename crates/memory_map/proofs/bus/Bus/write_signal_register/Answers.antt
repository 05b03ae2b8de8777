use Rattle.std.proofs.Common.{refl, ap, ◌∙◌, arith}
use Rattle.std.specs.Prelude.{◌||◌}
use Rattle.timer_unit.specs.Timer as timer
use Rattle.picture_unit.specs.Picture.{PictureAndRequests}
use Rattle.picture_unit.specs.Registers.{register_written}
use Rattle.memory_map.specs.declared.late_timer.LateTimer.{LateTimer}
use Rattle.memory_map.specs.State.{BusState}
use Rattle.memory_map.specs.contracts.bus.Bus.{the_view}
use Rattle.memory_map.proofs.LateTimers.{caught_up}
use Rattle.memory_map.proofs.LateBus.{consistent_now}
use Rattle.memory_map.proofs.PictureWrites.{register_written-pending}
use Rattle.memory_map.proofs.bus.Bus.write_signal_register.Goals as goal

pub invariant_of-self : goal.invariant_of-self
invariant_of-self c =
    consistent_now c.clock_of-clock.result c.catch_up.new.self _ c.clock_of-clock.ensures.lit
    (λ off. let none = c.clock_of-clock.ensures.dark off in omega (arith, none))
    (ap (λ (l : LateTimer). l.at) c.catch_up.ensures) refl c.self.invariant.wram c.self.invariant.control

pub returns : goal.returns
returns c =
    let b = the_view c.self.inside in
    ap (λ (t : timer.TimerAndRequest). record b { timer = t; picture = record { picture = c.write_register.new.self; vblank = b.picture.vblank; stat = b.picture.stat || c.write_register.result } })
    (caught_up c.clock_of-clock.result c.catch_up.new.self b.timer c.catch_up.ensures)
    ∙ ap (λ (d : PictureAndRequests). record b { picture = d })
    (register_written-pending c.args.address c.args.value b.picture c.write_register.new.self c.write_register.result c.write_register.ensures.picture c.write_register.ensures.stat)
    ∙ ap (λ (b : BusState). record b { picture = register_written c.args.address c.args.value b.picture }) c.self.view_is
