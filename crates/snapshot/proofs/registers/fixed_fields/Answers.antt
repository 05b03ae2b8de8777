use Rattle.std.proofs.Common.{refl}
use Rattle.snapshot.proofs.registers.fixed_fields.Goals as goal

pub returns : goal.returns
returns c =
    rw (
      c.to_byte.ensures,
      c.low.ensures,
      c.high.ensures,
      c.low-2.ensures,
      c.high-2.ensures,
      c.processor_byte.ensures,
      c.low-3.ensures,
      c.high-3.ensures,
      c.low-4.ensures,
      c.high-4.ensures,
      c.picture_byte.ensures,
      c.kind_byte.ensures,
      c.digit.ensures,
      c.low-5.ensures,
      c.high-5.ensures,
      c.digit-2.ensures,
    ) refl
