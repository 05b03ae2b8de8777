use Rattle.std.proofs.Common.{◌≡◌, ◌+◌, ◌-◌, ◌/◌, ◌<◌, ap, sym, subst, ◌∙◌, arith}
use Rattle.timer_unit.specs.Timer as timer
use Rattle.timer_unit.specs.declared.serial.SerialState.{SerialState}
use Rattle.timer_unit.specs.declared.timer.TimerState.{TimerState}
use Rattle.memory_map.specs.Quiet.{AreQuietOn}
use Rattle.memory_map.specs.contracts.bus.Bus.{the_view}
use Rattle.memory_map.proofs.LateTimers.{not_late}
use Rattle.memory_map.proofs.QuietCycles.{lit_quiet, dark_quiet}
use Rattle.memory_map.proofs.bus.Bus.quiet_cycles.Goals as goal

pub returns-then-is_on : goal.returns-then-is_on
returns-then-is_on c =
    let b = the_view c.self.inside in
    let now = not_late c.self.inside.clock c.self.inside.timer c.if-self.false in
    let still = ap (λ (s : timer.TimerAndRequest). (timer.ticks c.unrequested_for-unrequested.result s.timer).requested) now ∙ c.unrequested_for-unrequested.ensures in
    let left : b.serial.serial.cycles_left ≡ 0 = subst (λ (s : SerialState). s.cycles_left ≡ 0) c.state.ensures.state (omega (arith, c.if-state-gt0.false)) in
    subst (AreQuietOn c.min.result) c.self.view_is
    (lit_quiet c.min.result c.unrequested_for-unrequested.result c.quiet.result b.control.dma_copied b.timer.timer b.serial.serial.cycles_left b.picture.picture
    c.min.ensures c.if-self-lt160.false left still (sym c.is_on.ensures ∙ c.if-is_on.true) c.quiet.ensures.quiet)

pub returns-else-is_on : goal.returns-else-is_on
returns-else-is_on c =
    let b = the_view c.self.inside in
    let now = not_late c.self.inside.clock c.self.inside.timer c.if-self.false in
    let still = ap (λ (s : timer.TimerAndRequest). (timer.ticks c.unrequested_for-unrequested.result s.timer).requested) now ∙ c.unrequested_for-unrequested.ensures in
    let left : b.serial.serial.cycles_left ≡ 0 = subst (λ (s : SerialState). s.cycles_left ≡ 0) c.state.ensures.state (omega (arith, c.if-state-gt0.false)) in
    let same : c.state-else-is_on.result.counter ≡ b.timer.timer.counter =
    ap (λ (t : TimerState). t.counter) c.state-else-is_on.ensures.state ∙ sym (ap (λ (s : timer.TimerAndRequest). s.timer.counter) now) in
    let few = c.state-else-is_on.ensures.legal.counter in
    let below : b.timer.timer.counter / 4 + (16383 - c.state-else-is_on.result.counter / 4) < 16384 = omega (arith, few, same) in
    subst (AreQuietOn c.min-else-is_on.result) c.self.view_is
    (dark_quiet c.min-else-is_on.result c.unrequested_for-unrequested.result (16383 - c.state-else-is_on.result.counter / 4) b.control.dma_copied b.timer.timer b.serial.serial.cycles_left b.picture.picture
    c.min-else-is_on.ensures c.if-self-lt160.false left still (sym c.is_on.ensures ∙ c.if-is_on.false) below)
