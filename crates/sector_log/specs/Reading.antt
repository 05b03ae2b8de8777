-- What reading keeps, and what an opened log keeps of what was read.
use Rattle.std.specs.Prelude.{◌≡◌, ℕ, List, Option, Some, None, Bool, if◌then◌else◌}
use Rattle.std.proofs.Props.{props}
use Rattle.sector_device.specs.DiskState.{DiskState, Settled}
use Rattle.log_format.specs.Content.{chosen, content}
use Rattle.log_format.specs.Found.{log_of, is_too_small, blob_in}
use Rattle.input_entries.specs.declared.StoredEntry.{StoredEntry}
use Rattle.log_format.specs.declared.root.Root.{Root}

-- one image is left; it has this chosen root, and this log unless it is damaged in length
pub record IsFound (now : DiskState) (root : Option Root) (too_small : Bool) (log : List StoredEntry) : Type 0 where
  pub settled : Settled now
  pub chosen_is : chosen now.sectors ≡ root
  pub too_small_is : is_too_small (content now.sectors) ≡ too_small
  pub log_is : log_of (content now.sectors) ≡ log

abbrev pub FoundIs : DiskState → Option Root → Bool → List StoredEntry → Type 0
FoundIs now root too_small log = now.honest → IsFound now root too_small log

pub found_prop : (now : DiskState) (root : Option Root) (too_small : Bool) (log : List StoredEntry) → IsProp (FoundIs now root too_small log)
found_prop now root too_small log = hlevel props

abbrev pub BlobIs : DiskState → ℕ → Bool → List ℕ → Type 0
BlobIs now most was_read blob = now.honest → blob_in most (content now.sectors) ≡ (if was_read then Some blob else None)

pub blob_prop : (now : DiskState) (most : ℕ) (was_read : Bool) (blob : List ℕ) → IsProp (BlobIs now most was_read blob)
blob_prop now most was_read blob = hlevel props
