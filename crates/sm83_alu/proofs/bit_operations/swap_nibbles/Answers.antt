use Rattle.std.proofs.Common.{◌∙◌}
use Rattle.sm83_alu.proofs.Shifts.{swapped_by_masks}
use Rattle.sm83_alu.proofs.bit_operations.swap_nibbles.Goals as goal

pub returns : goal.returns
returns c = c.outcome.ensures ∙ swapped_by_masks c.args.value c.ranges.value.fits
