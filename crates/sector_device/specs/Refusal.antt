-- What a refusal hands back.
use Rattle.std.specs.Prelude.{Result, Ok, Err}
use Rattle.sector_device.specs.declared.refused.Refused.{Refused}

-- the device that a call leaves
abbrev pub left_by : {E D : Type 0} → Result D (Refused E D) → D
left_by (Ok device) = device
left_by (Err refused) = refused.device
