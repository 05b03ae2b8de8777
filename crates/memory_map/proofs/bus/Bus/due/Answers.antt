use Rattle.std.proofs.Common.{◌<◌, ℕ, Option, subst, ap, sym, ◌∙◌}
use Rattle.repeated_steps.specs.NextEvent.{IsNextEvent, earlier}
use Rattle.timer_unit.specs.Timer as timer
use Rattle.timer_unit.specs.declared.timer.TimerState.{TimerState}
use Rattle.memory_map.specs.State.{BusState}
use Rattle.memory_map.specs.Ticks.{tick, happens}
use Rattle.memory_map.specs.contracts.bus.Bus.{the_view}
use Rattle.memory_map.proofs.NextBusEvent.{next_event, copy_is_next}
use Rattle.memory_map.proofs.bus.Bus.due.Goals as goal

pub returns-then-self-lt160 : goal.returns-then-self-lt160
returns-then-self-lt160 c = copy_is_next c.args.self.now (subst (λ (b : BusState). b.control.dma_copied < 160) c.self.view_is c.if-self-lt160.true)

pub returns-else-self-lt160 : goal.returns-else-self-lt160
returns-else-self-lt160 c =
    let timer_due = subst (λ (t : TimerState). IsNextEvent timer.tick timer.signal_falls (timer.unrequested t) c.due.result) c.copy_at.ensures c.due.ensures in
    let at_view = next_event (the_view c.self.inside) c.due.result c.due-else-self-lt160.result c.due-else-self-lt160-2.result c.if-self-lt160.false timer_due c.due-else-self-lt160.ensures c.due-else-self-lt160-2.ensures in
    let at_now = subst (λ (b : BusState). IsNextEvent tick happens b (earlier c.due.result (earlier c.due-else-self-lt160.result c.due-else-self-lt160-2.result))) c.self.view_is at_view in
    subst (λ (o : Option ℕ). IsNextEvent tick happens c.args.self.now o) (sym (c.earlier-else-self-lt160.ensures ∙ ap (earlier c.due.result) c.earlier.ensures)) at_now
