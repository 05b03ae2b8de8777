-- The calls that a host has to make, as a record of a device.
use Rattle.std.specs.Prelude.{ℕ, zero, suc, ◌+◌, ◌*◌, List, [], ◌∷◌, ◌++◌, ◌&&◌, map, replicate, refl, slice_range, IsTrue, true}
use Rattle.std.proofs.Common.{ap, ◌∙◌}
use Rattle.sector_device.specs.Records.{is_sector, are_sectors}
use Rattle.sector_device.specs.declared.recorded.Recorded.{Recorded}
use Rattle.sector_device.specs.declared.recorded.Recorded.TheVariants as recorded
use Rattle.embedding.specs.declared.host_device.Call.{Call}
use Rattle.embedding.specs.declared.host_device.Call.TheVariants.{Write, Sync}

-- so many sectors of zeros
abbrev pub blank : ℕ → List (List ℕ)
blank count = replicate count (replicate 512 0)

-- a call that was made
abbrev pub made : Call → Recorded
made (Write at bytes) = recorded.Write at bytes true
made Sync = recorded.Sync true

abbrev pub recorded_of : List Call → List Recorded
recorded_of calls = map made calls

-- the sectors of an image, so many of them, each written
abbrev pub image_writes : (image : List ℕ) → ℕ → List Recorded
image_writes image zero = []
image_writes image (suc at) = image_writes image at ++ recorded.Write at (slice_range image (512 * at) (512 * at + 512)) true ∷ []

-- what puts an image of so many sectors on a disk: each sector written, and a sync
abbrev pub image_calls : (image : List ℕ) → ℕ → List Recorded
image_calls image count = image_writes image count ++ recorded.Sync true ∷ []

-- zero sectors are of 512 bytes
pub sized : (count : ℕ) → IsTrue (are_sectors (blank count))
sized zero = refl
sized (suc count) = ap (λ b. b && are_sectors (blank count)) (is_sector_blank) ∙ sized count
  where
    is_sector_blank : IsTrue (is_sector (replicate 512 0))
    is_sector_blank = refl
