use Rattle.command_line.proofs.words.command.Goals as goal

pub returns : goal.returns
returns c = c.with_subcommands.ensures
