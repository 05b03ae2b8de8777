-- Calls that only look: reads and syncs.
use Rattle.std.specs.Prelude.{◌≡◌, ◌⊎◌}
use Rattle.sector_device.specs.DiskState.{DiskState, Settled, Throughout, Remembers, NoNewImage, NoLostImage}
use Rattle.sector_device.specs.Runs.{HoldsSince}

-- Nothing was written: reads give what they gave, and no image came that did not stand before. The sync may have left one
-- image alone; else none was lost.
pub record HasLooked (old now : DiskState) : Type 0 where
  pub honest : now.honest
  pub sectors : now.sectors ≡ old.sectors
  pub images : NoNewImage old now
  pub since : HoldsSince old now old.image
  pub kept : NoLostImage old now ⊎ Settled now

-- ---- the same, so that runs of such calls can be joined

-- nothing was written
pub record LooksOnly (old now : DiskState) : Type 0 where
  pub honest : now.honest
  pub sectors : now.sectors ≡ old.sectors
  pub images : NoNewImage old now
  pub kept : NoLostImage old now ⊎ Settled now
  pub time : Throughout old now old.image
  pub past : Remembers old now
