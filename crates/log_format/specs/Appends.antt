-- What an append makes of a log, and of the content of an image.
use Rattle.std.specs.Prelude.{◌≡◌, ◌&&◌, ◌++◌, ◌+◌, ◌*◌, ◌/◌, ◌≤◌, ℕ, List, length, take, drop, nat_le, Bool, Option, Some}
use Rattle.log_format.specs.Content.{ImageContent, content, generation_in}
use Rattle.log_format.specs.Inputs.{AreInputs}
use Rattle.log_format.specs.Sizes.{entries_per_sector, most_entries, most_inputs}
use Rattle.input_entries.specs.Growing.{with_inputs}
use Rattle.input_entries.specs.Inputs.{inputs}
use Rattle.input_entries.specs.declared.Entry.{Entry}
use Rattle.input_entries.specs.declared.StoredEntry.{StoredEntry}
use Rattle.log_format.specs.declared.content.Header.{Header}

-- the entries of full sectors
abbrev pub sealed : List StoredEntry → ℕ
sealed log = entries_per_sector * (length log / entries_per_sector)

-- the log with more inputs, where full sectors stay as they are
unfoldable pub grown : List StoredEntry → List Entry → List StoredEntry
grown log more = take (sealed log) log ++ with_inputs (drop (sealed log) log) more

-- the entries fit the log's sectors, and the inputs a log
unfoldable pub fits : List StoredEntry → List Entry → Bool
fits log more = nat_le (length (grown log more)) most_entries && nat_le (length (inputs log) + length more) most_inputs

-- the second content is the first with these inputs after its log
pub record Adds (more : List Entry) (old new : Option ImageContent) : Type 0 where
  pub header : Header
  pub blob : List ℕ
  pub before : List StoredEntry
  pub after : List StoredEntry
  pub old_is : old ≡ Some (record { header = header; body = Some (record { blob = blob; log = before }) })
  pub new_is : new ≡ Some (record { header = header; body = Some (record { blob = blob; log = after }) })
  pub are : AreInputs after
  pub adds : inputs after ≡ inputs before ++ more

-- the image has the content of the old one with a prefix of these inputs after its log
pub record HoldsPrefix (old : List (List ℕ)) (more : List Entry) (image : List (List ℕ)) : Type 0 where
  pub count : ℕ
  pub within : count ≤ length more
  pub adds : Adds (take count more) (content old) (content image)
  pub generation_is : generation_in image ≡ generation_in old
