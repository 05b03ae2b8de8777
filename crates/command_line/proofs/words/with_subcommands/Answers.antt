use Rattle.std.proofs.Common.{IfOk, subst, sym}
use Rattle.clap.specs.Words.{App}
use Rattle.command_line.specs.Commands.{Reads}
use Rattle.command_line.proofs.Building.{one_command}
use Rattle.command_line.proofs.words.with_subcommands.Goals as goal

pub loop-row-preserved : goal.loop-row-preserved
loop-row-preserved c =
    subst (λ (app : App). IfOk c.joined-command.result (Reads app)) (sym (one_command c.args.rows.now c.loop-row.row-index _ c.loop-row-test.true))
    (c.joined-command.ensures _ _ c.loop-row.invariant c.command_of.ensures)
