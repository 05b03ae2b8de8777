-- What is found on an image: nothing, a whole content or a damaged one, with its entries and its blob.
use Rattle.std.specs.Prelude.{◌≡◌, ◌≤◌, ◌<◌, ◌+◌, ◌-◌, ◌^◌, ℕ, List, [], length, Option, Some, None, Bool, true, false, if◌then◌else◌, nat_lt, nat_le}
use Rattle.log_format.specs.Content.{ImageContent, Body, header_of, need}
use Rattle.log_format.specs.Inputs.{counted}
use Rattle.log_format.specs.Sizes.{most_entries_read}
use Rattle.input_entries.specs.declared.StoredEntry.{StoredEntry}
use Rattle.log_format.specs.declared.content.Header.{Header}
use Rattle.log_format.specs.declared.content.Found.{Found}
use Rattle.log_format.specs.declared.content.Found.TheVariants.{Nothing, Intact, Damaged}
use Rattle.log_format.specs.declared.content.Part.TheVariants.{Length, Count}
use Rattle.log_format.specs.declared.root.Root.{Root}

-- damaged in length where the blob does not fit its area, in count where base and log are above the greatest `u64`
abbrev pub found_by : Header → Option Body → Found
found_by header None = Damaged header (Length (need header.blob_length))
found_by header (Some body) = if nat_lt (2 ^ 64 - 1) (header.base + counted 0 body.log) then Damaged header Count else Intact header

abbrev pub found_in : Option ImageContent → Found
found_in None = Nothing
found_in (Some content) = found_by content.header content.body

abbrev pub log_in : Option Body → List StoredEntry
log_in None = []
log_in (Some body) = body.log

-- the log's entries, none where there is no content or the blob does not fit
abbrev pub log_of : Option ImageContent → List StoredEntry
log_of None = []
log_of (Some found) = log_in found.body

abbrev pub no_body : Option Body → Bool
no_body None = true
no_body (Some body) = false

-- the area is too small for the blob
abbrev pub is_too_small : Option ImageContent → Bool
is_too_small None = false
is_too_small (Some found) = no_body found.body

abbrev pub blob_by : ℕ → ℕ → Option Body → Option (List ℕ)
blob_by most size None = None
blob_by most size (Some body) = if nat_le size most then Some body.blob else None

-- the blob, where it fits the area and is no longer than `most`
abbrev pub blob_in : ℕ → Option ImageContent → Option (List ℕ)
blob_in most None = None
blob_in most (Some found) = blob_by most found.header.blob_length found.body

-- ---- what an opened log holds

-- what was found when a log was opened: the roots' content, the log's entries, and the blob where it fits its area and is not too
-- long to be kept
pub record Seen : Type 0 where
  pub found : Found
  pub log : List StoredEntry
  pub blob : Option (List ℕ)

abbrev pub seen_in : ℕ → Option ImageContent → Seen
seen_in most held = record { found = found_in held; log = log_of held; blob = blob_in most held }

-- what holds of any device, honest or not
pub record IsSound (seen : Seen) : Type 0 where
  pub few : length seen.log ≤ most_entries_read
  pub counts : (c : Header) → seen.found ≡ Intact c → c.base + counted 0 seen.log < 2 ^ 64

-- what a chosen root says whose blob does not fit its area, or behind whose blob this log stands
abbrev pub found_with : Option Root → Bool → List StoredEntry → Found
found_with None too_small log = Nothing
found_with (Some root) true log = Damaged (header_of root) (Length (need root.blob_length))
found_with (Some root) false log = if nat_lt (2 ^ 64 - 1) (root.base + counted 0 log) then Damaged (header_of root) Count else Intact (header_of root)
