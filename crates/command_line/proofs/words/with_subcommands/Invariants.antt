use Rattle.std.proofs.Common.{IfOk, map, take}
use Rattle.command_line.specs.Commands.{Reads, usage_of, with_commands}
use Rattle.command_line.proofs.words.with_subcommands.Given as goal

abbrev pub invariant-loop-row : goal.invariant-loop-row
invariant-loop-row l = IfOk l.command (Reads (with_commands (map usage_of (take l.row-index l.rows))))
