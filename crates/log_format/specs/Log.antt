-- The log of an area: sectors of entries, each with its index in the log, in two versions.
use Rattle.std.specs.Prelude.{◌==◌, ◌&&◌, ◌++◌, ◌+◌, ◌-◌, ◌*◌, ◌/◌, ℕ, zero, suc, List, [], ◌∷◌, length, take, drop, Bool, if◌then◌else◌, nat_le, nat_lt}
use Rattle.std.specs.List.{flat_map}
use Rattle.std.specs.Int.{w16, to_le_bytes, from_le_bytes}
use lib.ListN.{replicate}
use Rattle.input_entries.specs.Bytes.{begins_with, byte, zeros}
use Rattle.log_format.specs.Sizes.{entries_per_sector, entries_per_old_sector, log_sectors_per_area}
use Rattle.input_entries.specs.declared.StoredEntry.{StoredEntry}
use Rattle.log_format.specs.declared.root.Version.{Version}
use Rattle.log_format.specs.declared.root.Version.TheVariants.{One, Two}

-- "GBL1" and "GBL2"
abbrev pub log_magic : Version → List ℕ
log_magic One = 71 ∷ 66 ∷ 76 ∷ 49 ∷ []
log_magic Two = 71 ∷ 66 ∷ 76 ∷ 50 ∷ []

-- how many entries fill a sector
abbrev pub entries_of_full_sector : Version → ℕ
entries_of_full_sector One = entries_per_old_sector
entries_of_full_sector Two = entries_per_sector

-- the bytes of an entry
abbrev pub width : Version → ℕ
width One = 5
width Two = 6

-- an entry as it is read: a frame of the first version is a run of one, and one that is no frame has length zero
abbrev pub stored : Version → List ℕ → StoredEntry
stored One bytes = record {
  code = if byte 0 bytes == 0
      then 0 ∷ byte 1 bytes ∷ (if zeros (drop 2 bytes) then 1 else 0) ∷ 0 ∷ 0 ∷ 0 ∷ []
      else bytes ++ 0 ∷ [];
}
stored Two bytes = record { code = bytes }

-- how many entries a log sector says that it has
abbrev pub count_in : List ℕ → ℕ
count_in sector = from_le_bytes w16 (take 2 (drop 6 sector))

-- a log sector that stands at this index of the log
abbrev pub is_log_sector : Version → ℕ → List ℕ → Bool
is_log_sector version index sector =
    begins_with (log_magic version) sector && from_le_bytes w16 (take 2 (drop 4 sector)) == index && nat_lt 0 (count_in sector) && nat_le (count_in sector) (entries_of_full_sector version)

-- the first n entries of these bytes
abbrev pub entries_from : Version → ℕ → List ℕ → List StoredEntry
entries_from version zero bytes = []
entries_from version (suc n) bytes = stored version (take (width version) bytes) ∷ entries_from version n (drop (width version) bytes)

-- the entries of a sector at this index, none if it is not valid there
abbrev pub entries_at : Version → ℕ → List ℕ → List StoredEntry
entries_at version index sector = if is_log_sector version index sector then entries_from version (count_in sector) (drop 8 sector) else []

-- the entries of these sectors from that index on, up to the first sector that is not full
abbrev pub log_from : Version → ℕ → List (List ℕ) → List StoredEntry
log_from version index [] = []
log_from version index (s ∷ sectors) =
    entries_at version index s ++ (if length (entries_at version index s) == entries_of_full_sector version then log_from version (suc index) sectors else [])

-- the sector of the second version at this index with these entries; blank with none
abbrev pub log_sector : ℕ → List StoredEntry → List ℕ
log_sector index [] = replicate 512 0
log_sector index (e ∷ es) =
    log_magic Two ++ to_le_bytes w16 index ++ to_le_bytes w16 (length (e ∷ es)) ++ flat_map (λ (x : StoredEntry). x.code) (e ∷ es) ++ replicate (504 - 6 * length (e ∷ es)) 0

-- n log sectors from this index on with these entries, as many in each as fit, and then blank ones
abbrev pub log_sectors : ℕ → ℕ → List StoredEntry → List (List ℕ)
log_sectors zero index entries = []
log_sectors (suc n) index entries = log_sector index (take entries_per_sector entries) ∷ log_sectors n (suc index) (drop entries_per_sector entries)

-- the log sectors of an area with these entries
unfoldable pub log_area : List StoredEntry → List (List ℕ)
log_area entries = log_sectors log_sectors_per_area 0 entries

-- these bytes, and zeros up to a whole sector
abbrev pub padded : List ℕ → List ℕ
padded bytes = bytes ++ replicate (512 - length bytes) 0

-- n sectors with these bytes
abbrev pub blob_area : ℕ → List ℕ → List (List ℕ)
blob_area zero blob = []
blob_area (suc n) blob = padded (take 512 blob) ∷ blob_area n (drop 512 blob)

-- an area with a blank log and this blob
unfoldable pub fresh_area : List ℕ → List (List ℕ)
fresh_area blob = log_area [] ++ blob_area ((length blob + 511) / 512) blob
