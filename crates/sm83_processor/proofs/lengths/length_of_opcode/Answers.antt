use Rattle.std.proofs.Common.{arith}
use Rattle.sm83_processor.proofs.OpcodeLengths.{length_at}
use Rattle.sm83_processor.proofs.lengths.length_of_opcode.Goals as goal

pub returns : goal.returns
returns c = λ low high. rw c.from.ensures (length_at c.args.opcode low high (omega arith))
