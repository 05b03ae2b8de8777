use Rattle.std.proofs.Common.{◌∙◌}
use Rattle.sm83_alu.proofs.Shifts.{shifted_right_arithmetic_by_masks}
use Rattle.sm83_alu.proofs.bit_operations.shift_right_arithmetic.Goals as goal

pub returns : goal.returns
returns c = c.outcome.ensures ∙ shifted_right_arithmetic_by_masks c.args.value c.ranges.value.fits
