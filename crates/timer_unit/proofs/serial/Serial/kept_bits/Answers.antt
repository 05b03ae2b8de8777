use Rattle.timer_unit.proofs.Tables.{sc_bits_by_mask}
use Rattle.timer_unit.proofs.serial.Serial.kept_bits.Goals as goal

pub returns : goal.returns
returns c = sc_bits_by_mask c.args.value c.ranges.value.fits
