use Rattle.std.proofs.Common.{◌∙◌}
use Rattle.debugging.proofs.Opcodes.{next_is}
use Rattle.debugging.proofs.aims.is_before.Goals as goal

pub returns : goal.returns
returns c = c.is_next.ensures ∙ next_is c.args.opcode c.args.processor.now
