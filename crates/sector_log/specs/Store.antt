-- What a store knows of its device, and the root that it writes next.
use Rattle.std.specs.Prelude.{◌≡◌, ◌⊎◌, ◌+◌, ◌≤◌, ◌<◌, ℕ, List, [], slice_index_or, length, Some, Bool, true, false}
use Rattle.std.proofs.Props.{props}
use Rattle.sector_device.specs.DiskState.{DiskState, Settled}
use Rattle.log_format.specs.declared.root.Root.{Root}
use Rattle.log_format.specs.Content.{chosen, generation_in, area_length, area_start, blob_sectors}
use Rattle.sector_log.specs.Layout.{replaced}
use Rattle.log_format.specs.Log.{log_area}
use Rattle.input_entries.specs.Inputs.{inputs, is_entry}
use Rattle.log_format.specs.Sizes.{log_sectors_per_area, most_entries, most_inputs}
use Rattle.input_entries.specs.declared.StoredEntry.{StoredEntry}
use Rattle.log_format.specs.declared.root.Version.TheVariants.{Two}
use Rattle.log_format.specs.Inputs.{HaveSix}
use Rattle.log_format.specs.Widths.{Fits}

-- one image is left; its chosen root's area begins at `start`, holds the whole blob, and has exactly this log
pub record IsStored (now : DiskState) (start : ℕ) (root : Root) (log : List StoredEntry) : Type 0 where
  pub version_is : root.version ≡ Two
  pub settled : Settled now
  pub chosen_is : chosen now.sectors ≡ Some root
  pub start_is : area_start root.generation now.sectors ≡ start
  pub within : start + area_length now.sectors ≤ length now.sectors
  pub fits : log_sectors_per_area + blob_sectors root.blob_length ≤ area_length now.sectors
  pub log_is : now.sectors ≡ replaced start (log_area log) now.sectors

abbrev pub StoredUnlessBroken : DiskState → ℕ → Root → List StoredEntry → Bool → Type 0
StoredUnlessBroken now start root log broken = broken ≡ false → now.honest → IsStored now start root log

pub stored_prop : (now : DiskState) (start : ℕ) (root : Root) (log : List StoredEntry) (broken : Bool) → IsProp (StoredUnlessBroken now start root log broken)
stored_prop now start root log broken = hlevel props

-- each entry stands for inputs
abbrev pub StandForInputs : List StoredEntry → Type 0
StandForInputs log = (k : ℕ) → k < length log → is_entry (slice_index_or log k (record { code = [] })) ≡ true

-- what a store keeps of its log
pub record Kept (log : List StoredEntry) : Type 0 where
  pub six : HaveSix log
  pub entries : StandForInputs log
  pub few : length (inputs log) ≤ most_inputs
  pub small : length log ≤ most_entries

pub kept_prop : (log : List StoredEntry) → IsProp (Kept log)
kept_prop log = hlevel props

-- the root of the generation that follows, for the area that begins at `start`
pub record IsNextGeneration (image : List (List ℕ)) (start : ℕ) (root : Root) (blob : List ℕ) : Type 0 where
  pub start_is : area_start root.generation image ≡ start
  pub follows : root.generation ≡ generation_in image + 1
  pub within : start + area_length image ≤ length image
  pub other : (r : Root) → chosen image ≡ Some r → (area_start r.generation image + area_length image ≤ start) ⊎ (start + area_length image ≤ area_start r.generation image)
  pub fits : log_sectors_per_area + blob_sectors root.blob_length ≤ area_length image
  pub blob_is : root.blob_length ≡ length blob
  pub root_fits : Fits root
  pub version_is : root.version ≡ Two
  pub two : 2 ≤ length image

-- the root of the generation that follows this one
abbrev pub root_after : ℕ → List ℕ → ℕ → ℕ → Root
root_after last id base blob_length = record { version = Two; generation = last + 1; id = id; base = base; blob_length = blob_length }
