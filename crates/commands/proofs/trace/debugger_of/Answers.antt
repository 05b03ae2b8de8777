use Rattle.std.proofs.Common.{◌∙◌, ap}
use Rattle.debugger.specs.History.{DebuggerState}
use Rattle.commands.proofs.Copies.{some_of_ok}
use Rattle.commands.proofs.trace.debugger_of.Goals as goal

pub returns : goal.returns
returns c =
    rw c.ok.ensures.value (some_of_ok c.new.result c.new.ensures.ok
    (λ d is. (ap (λ (d : DebuggerState). d.machine) is ∙ c.in_ok-copy.ensures.0, c.in_ok-copy.ensures.1)))
