use Rattle.std.proofs.Common.{◌≡◌, refl, sym, ap, arith, rules}
use Rattle.std.specs.Prelude.{length}
use Rattle.timer_unit.specs.Timer.{unrequested, timer_at_power_on}
use Rattle.picture_unit.specs.Picture.{PictureUnit, picture_at_power_on, state_at_power_on}
use Rattle.picture_unit.specs.Laws.{frame_cycle}
use Rattle.memory_map.specs.LateTimer.{up_to}
use Rattle.memory_map.specs.declared.late_timer.LateTimer.{LateTimer}
use Rattle.memory_map.proofs.LateTimers.{caught_up}
use Rattle.memory_map.proofs.LateBus.{consistent_now}
use Rattle.memory_map.proofs.bus.Bus.new.Goals as goal

first_cycle : (p : PictureUnit) → p ≡ picture_at_power_on → frame_cycle p.state ≡ 0
unfolding picture_at_power_on state_at_power_on
first_cycle p e = ap (λ (p : PictureUnit). (frame_cycle p.state)) e

pub invariant_of-result : goal.invariant_of-result
invariant_of-result c =
    let l = c.new-3.result in
    let m = first_cycle c.in_ok-picture.picture c.in_ok-picture.ensures in
    let wram : length c.in_ok-wram.wram.items ≡ 8192 = omega (arith, c.in_ok-wram.wram.ok.0, c.in_ok-wram.ensures.len) in
    consistent_now 0 l _ (λ _. sym m) (λ _. omega arith) (ap (λ (l : LateTimer). l.at) c.new-3.ensures) refl wram c.at_power_on.ensures.legal

pub returns : goal.returns
returns c =
    let l = c.new-3.result in
    let t : up_to 0 l ≡ unrequested timer_at_power_on = caught_up 0 l (unrequested timer_at_power_on) c.new-3.ensures in
    search (rules, t)
