use Rattle.std.proofs.Common.{ℕ, ap, subst, sym, ◌∙◌}
use Rattle.std.specs.Prelude.{◌%◌}
use Rattle.machine.specs.Waiting.{Waits}
use Rattle.machine.proofs.Waiting.{locked_waits, stopped_waits, halted_waits}
use Rattle.machine.proofs.frame.waits.Goals as goal

pub returns-then-processor-clause-waits : goal.returns-then-processor-clause-waits
returns-then-processor-clause-waits c = λ _. locked_waits c.args.left c.args.processor.now c.if-processor.true

pub returns-then-read-eq15-clause-waits : goal.returns-then-read-eq15-clause-waits
returns-then-read-eq15-clause-waits c =
    λ _. stopped_waits c.args.left c.args.processor.now c.if-processor.false c.if-processor-2.true (ap (λ (n : ℕ). n % 16) (sym c.read.ensures) ∙ c.if-read-eq15.true)

pub returns-clause-waits : goal.returns-clause-waits
returns-clause-waits c =
    λ steady. subst (λ (n : ℕ). Waits n c.args.processor.now) (sym c.soonest.ensures)
    (halted_waits c.due.result c.args.left c.args.processor.now c.if-processor.false c.if-processor-2.false c.if-not-processor.false (sym c.pending_interrupts.ensures ∙ c.if-pending_interrupts-ne0.false) c.due.ensures steady)
