-- What an image of the device holds: two roots, two areas, and the log and the blob of the chosen root's area.
use Rattle.std.specs.Prelude.{◌≡◌, ◌==◌, ◌&&◌, ◌++◌, ◌-◌, ◌+◌, ◌*◌, ◌/◌, ◌%◌, ℕ, List, [], ◌∷◌, length, take, drop, Bool, if◌then◌else◌, nat_le, nat_lt, Option, Some, None}
use Rattle.std.specs.List.{flat_map}
use Rattle.std.specs.Int.{w32, w64, from_le_bytes, to_le_bytes}
use lib.ListN.{replicate}
use Rattle.sector_device.specs.DiskState.{sector_at}
use Rattle.input_entries.specs.Bytes.{begins_with, zeros}
use Rattle.log_format.specs.Log.{log_from}
use Rattle.log_format.specs.Sizes.{log_sectors_per_area}
use Rattle.input_entries.specs.declared.StoredEntry.{StoredEntry}
use Rattle.log_format.specs.declared.content.Header.{Header}
use Rattle.log_format.specs.declared.root.Version.{Version}
use Rattle.log_format.specs.declared.root.Version.TheVariants.{One, Two}
use Rattle.log_format.specs.declared.root.Root.{Root}

-- ---- roots

-- "GBKPROOT"
abbrev pub root_magic : List ℕ
root_magic = 71 ∷ 66 ∷ 75 ∷ 80 ∷ 82 ∷ 79 ∷ 79 ∷ 84 ∷ []

-- the number of the version, low byte first
abbrev pub version_bytes : Version → List ℕ
version_bytes One = 1 ∷ 0 ∷ 0 ∷ 0 ∷ []
version_bytes Two = 2 ∷ 0 ∷ 0 ∷ 0 ∷ []

abbrev pub root_front : Version → List ℕ
root_front version = root_magic ++ version_bytes version

abbrev pub version_in : List ℕ → Version
version_in sector = if begins_with (root_front One) sector then One else Two

abbrev pub root_in : List ℕ → Root
root_in sector = record {
  version = version_in sector;
  generation = from_le_bytes w64 (take 8 (drop 12 sector));
  id = take 32 (drop 20 sector);
  base = from_le_bytes w64 (take 8 (drop 52 sector));
  blob_length = from_le_bytes w32 (take 4 (drop 60 sector));
}

abbrev pub root_bytes : Root → List ℕ
root_bytes root =
    root_front root.version ++ to_le_bytes w64 root.generation ++ root.id ++ to_le_bytes w64 root.base ++ to_le_bytes w32 root.blob_length ++ replicate 448 0

-- magic, a known version, zeros from byte 64 on, and the slot of its generation
abbrev pub is_valid_root : ℕ → List ℕ → Bool
is_valid_root slot sector =
    begins_with (root_front (version_in sector)) sector && zeros (drop 64 sector) && (root_in sector).generation % 2 == slot

abbrev pub root_at : ℕ → List (List ℕ) → Option Root
root_at slot image = if is_valid_root slot (sector_at image slot) then Some (root_in (sector_at image slot)) else None

-- the one of greater generation
abbrev pub newer : Option Root → Option Root → Option Root
newer None b = b
newer (Some a) None = Some a
newer (Some a) (Some b) = if nat_lt a.generation b.generation then Some b else Some a

abbrev pub chosen : List (List ℕ) → Option Root
chosen image = if nat_le 2 (length image) then newer (root_at 0 image) (root_at 1 image) else None

abbrev pub last_generation : Option Root → ℕ
last_generation None = 0
last_generation (Some root) = root.generation

abbrev pub version_of : Option Root → Option Version
version_of None = None
version_of (Some root) = Some root.version

-- the generation of the chosen root, 0 where there is none
abbrev pub generation_in : List (List ℕ) → ℕ
generation_in image = last_generation (chosen image)

-- ---- areas

abbrev pub area_length : List (List ℕ) → ℕ
area_length image = (length image - 2) / 2

-- the first sector of the area of a generation
abbrev pub area_start : ℕ → List (List ℕ) → ℕ
area_start generation image = 2 + generation % 2 * area_length image

abbrev pub area : ℕ → List (List ℕ) → List (List ℕ)
area generation image = take (area_length image) (drop (area_start generation image) image)

-- the sectors that a blob of this length takes
abbrev pub blob_sectors : ℕ → ℕ
blob_sectors blob_length = (blob_length + 511) / 512

-- the sectors that a device needs for a blob of this length
abbrev pub need : ℕ → ℕ
need blob_length = 2 + 2 * (log_sectors_per_area + blob_sectors blob_length)

-- ---- content

pub record Body : Type 0 where
  pub blob : List ℕ
  -- the entries, a run of frames as one
  pub log : List StoredEntry

pub record ImageContent : Type 0 where
  -- the id, the count of inputs before the blob, and the blob's length
  pub header : Header
  -- none where the blob does not fit the area
  pub body : Option Body

abbrev pub header_of : Root → Header
header_of root = record { id = root.id; base = root.base; blob_length = root.blob_length }

-- what a root and the sectors of its area hold
abbrev pub content_in : Root → List (List ℕ) → ImageContent
content_in root sectors = record {
  header = header_of root;
  body = if nat_le (log_sectors_per_area + blob_sectors root.blob_length) (length sectors)
      then Some (record { blob = take root.blob_length (flat_map (λ (s : List ℕ). s) (drop log_sectors_per_area sectors)); log = log_from root.version 0 (take log_sectors_per_area sectors) })
      else None;
}

abbrev pub content_by : Option Root → List (List ℕ) → Option ImageContent
content_by None image = None
content_by (Some root) image = Some (content_in root (area root.generation image))

-- what an image holds; its generation stands beside it
abbrev pub content : List (List ℕ) → Option ImageContent
content image = content_by (chosen image) image

-- a blob with an empty log
abbrev pub new_generation : List ℕ → ℕ → List ℕ → ImageContent
new_generation id base blob = record {
  header = record { id = id; base = base; blob_length = length blob };
  body = Some (record { blob = blob; log = [] });
}

-- the image has this content in this generation
pub record Holds (generation : ℕ) (held : Option ImageContent) (image : List (List ℕ)) : Type 0 where
  pub content_is : content image ≡ held
  pub generation_is : generation_in image ≡ generation
