-- The bytes of a recording: its head in sector 0, and the sectors of the list after it.
use Rattle.std.specs.Prelude.{◌==◌, ◌&&◌, ◌++◌, ◌-◌, ◌*◌, ℕ, zero, suc, List, [], ◌∷◌, length, take, drop, Bool, if◌then◌else◌, nat_le}
use Rattle.std.specs.List.{flat_map, list_all}
use Rattle.std.specs.Int.{w16, w32, to_le_bytes, from_le_bytes}
use lib.ListN.{replicate}
use Rattle.input_entries.specs.Bytes.{begins_with, zeros}
use Rattle.input_entries.specs.Inputs.{is_entry}
use Rattle.input_entries.specs.declared.StoredEntry.{StoredEntry}
use Rattle.recording.specs.Sizes.{entries_per_sector}

-- a sector of zeros
abbrev pub blank : List ℕ
blank = replicate 512 0

-- ---- the head

-- "GBKPRECD", and version 1, low byte first
abbrev pub head_front : List ℕ
head_front = 71 ∷ 66 ∷ 75 ∷ 80 ∷ 82 ∷ 69 ∷ 67 ∷ 68 ∷ 1 ∷ 0 ∷ 0 ∷ 0 ∷ []

-- the head of a recording of the ROM with this SHA-256
unfoldable pub head : List ℕ → List ℕ
head id = head_front ++ id ++ replicate 468 0

-- the magic, the version, and zeros from byte 44 on
unfoldable pub is_head : List ℕ → Bool
is_head sector = begins_with head_front sector && zeros (drop 44 sector)

-- and the id between them is this one
unfoldable pub is_head_of : List ℕ → List ℕ → Bool
is_head_of id sector = is_head sector && begins_with id (drop 12 sector)

-- ---- the sectors of the list

-- "GBR1"
abbrev pub list_magic : List ℕ
list_magic = 71 ∷ 66 ∷ 82 ∷ 49 ∷ []

-- an entry as it is read
abbrev pub stored : List ℕ → StoredEntry
stored bytes = record { code = bytes }

-- the first n entries of these bytes
abbrev pub entries_from : ℕ → List ℕ → List StoredEntry
entries_from zero bytes = []
entries_from (suc n) bytes = stored (take 6 bytes) ∷ entries_from n (drop 6 bytes)

-- the number that a sector has, and how many entries it says that it has
abbrev pub number_in : List ℕ → ℕ
number_in sector = from_le_bytes w32 (take 4 (drop 4 sector))

abbrev pub count_in : List ℕ → ℕ
count_in sector = from_le_bytes w16 (take 2 (drop 8 sector))

abbrev pub entries_in : List ℕ → List StoredEntry
entries_in sector = entries_from (count_in sector) (drop 10 sector)

-- the magic, this number, and a number of entries that is neither 0 nor too great
unfoldable pub has_front : ℕ → List ℕ → Bool
has_front number sector = begins_with list_magic sector && number_in sector == number && nat_le 1 (count_in sector) && nat_le (count_in sector) entries_per_sector

-- a sector is valid at this number if it has such a front, and each of its entries is an input
unfoldable pub is_list_sector : ℕ → List ℕ → Bool
is_list_sector number sector = has_front number sector && list_all is_entry (entries_in sector)

-- the entries of a sector at this number, none if it is not valid there
unfoldable pub entries_at : ℕ → List ℕ → List StoredEntry
entries_at number sector = if is_list_sector number sector then entries_in sector else []

-- the entries of these sectors from that number on: up to the first sector that is not full, before the first that is not valid
abbrev pub list_from : ℕ → List (List ℕ) → List StoredEntry
list_from number [] = []
list_from number (s ∷ sectors) =
    entries_at number s ++ (if length (entries_at number s) == entries_per_sector then list_from (suc number) sectors else [])

-- ---- what is written

-- the sector with this number and these entries; blank with none
unfoldable pub list_sector : ℕ → List StoredEntry → List ℕ
list_sector number [] = blank
list_sector number (e ∷ es) =
    list_magic ++ to_le_bytes w32 number ++ to_le_bytes w16 (length (e ∷ es)) ++ flat_map (λ (x : StoredEntry). x.code) (e ∷ es) ++ replicate (502 - 6 * length (e ∷ es)) 0
