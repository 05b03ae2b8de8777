-- What a device leaves to the layers above that has handed out some of its calls.
use Rattle.std.proofs.Common.{◌∙◌, sym}
use Rattle.sector_device.specs.DiskState.{DiskState, Settled, HasHanded}

pub settled_still : {old now : DiskState} → HasHanded old now → Settled old → Settled now
settled_still handed settled c is = settled c (handed.images c is) ∙ sym handed.sectors
