use Rattle.std.proofs.Common.{[], map, take}
use Rattle.command_line.specs.Commands.{Reads, operand_of, shape_of_usage, usage}
use Rattle.command_line.proofs.words.command_of.Given as goal

abbrev pub invariant-loop-operand : goal.invariant-loop-operand
invariant-loop-operand l = Reads (record { top = shape_of_usage (usage l.row.name.now (map operand_of (take l.operand-index l.operands))); subs = [] }) l.command
