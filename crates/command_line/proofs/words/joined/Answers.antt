use Rattle.std.proofs.lemmas.Result.{IfOk-weaker}
use Rattle.command_line.specs.Commands.{Reads}
use Rattle.command_line.proofs.Building.{command_added}
use Rattle.command_line.proofs.words.joined.Goals as goal

pub returns : goal.returns
returns c = λ app sub before inner.
    let old : Reads app c.in_ok-command.field-0 = rw c.in_ok-command.was at before in
    let added : Reads sub c.in_ok-below.field-0 = rw c.in_ok-below.was at inner in
    IfOk-weaker c.subcommand.result _ _ (λ r adds. command_added app sub _ _ _ old added adds) c.subcommand.ensures
