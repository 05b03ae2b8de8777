use Rattle.std.proofs.Common.{List, [], subst, sym}
use Rattle.clap.specs.Simple.{new_shape}
use Rattle.clap.specs.Words.{Rule}
use Rattle.command_line.specs.Commands.{Reads, operand_of, rule_of_operand}
use Rattle.command_line.proofs.Building.{argument_added, one_more}
use Rattle.command_line.proofs.words.command_of.Goals as goal

pub loop-operand-preserved : goal.loop-operand-preserved
loop-operand-preserved c =
    let row = c.args.row.now in
    subst (λ (rules : List Rule). Reads (record { top = record (new_shape row.name.now) { rules = rules }; subs = [] }) c.in_ok-command.command)
    (sym (one_more rule_of_operand operand_of row.operands.now c.loop-operand.operand-index _ c.loop-operand-test.true))
    (argument_added _ _ _ _ _ c.loop-operand.invariant c.argument.ensures c.in_ok-command.ensures)
