-- A root that was written is read back.
use Rattle.std.proofs.Common.{◌≡◌, ℕ, ◌%◌, List, ◌++◌, take, drop, Bool, true, if◌then◌else◌, sym, ap, ◌∙◌, arith, append_assoc, Some, None, ◌&&◌, ◌==◌}
use Rattle.std.proofs.lemmas.List.{take_at, drop_at, drop-drop}
use Rattle.std.proofs.lemmas.Bool.Decides.{nat_tests}
use Rattle.std.proofs.lemmas.Nat.{from_le_bytes-to_le_bytes_4, from_le_bytes-to_le_bytes_8}
use Rattle.std.specs.Int.{w32, w64, from_le_bytes, to_le_bytes}
use lib.ListN.{replicate}
use Rattle.sector_device.specs.DiskState.{sector_at}
use Rattle.log_format.specs.declared.root.Root.{Root}
use Rattle.log_format.specs.declared.root.Version.TheVariants.{Two}
use Rattle.input_entries.specs.Bytes.{zeros}
use Rattle.log_format.specs.Widths.{Fits}
use Rattle.log_format.specs.Content.{root_bytes, root_in, is_valid_root, root_at}

-- the root in the second version
abbrev pub in_two : Root → Root
in_two root = record { version = Two; generation = root.generation; id = root.id; base = root.base; blob_length = root.blob_length }

module _ (root : Root) (fits : Fits root) where
  after_id : drop 20 (root_bytes (in_two root)) ≡ root.id ++ (to_le_bytes w64 root.base ++ (to_le_bytes w32 root.blob_length ++ replicate 448 0))
  after_id = append_assoc (root.id ++ to_le_bytes w64 root.base) (to_le_bytes w32 root.blob_length) (replicate 448 0) ∙ append_assoc root.id (to_le_bytes w64 root.base) (to_le_bytes w32 root.blob_length ++ replicate 448 0)

  pub id_read : take 32 (drop 20 (root_bytes (in_two root))) ≡ root.id
  id_read = ap (take 32) after_id ∙ take_at root.id (to_le_bytes w64 root.base ++ (to_le_bytes w32 root.blob_length ++ replicate 448 0)) 32 fits.id

  past_id : drop 32 (drop 20 (root_bytes (in_two root))) ≡ to_le_bytes w64 root.base ++ (to_le_bytes w32 root.blob_length ++ replicate 448 0)
  past_id = ap (drop 32) after_id ∙ drop_at root.id (to_le_bytes w64 root.base ++ (to_le_bytes w32 root.blob_length ++ replicate 448 0)) 32 fits.id

  pub base_read : from_le_bytes w64 (take 8 (drop 52 (root_bytes (in_two root)))) ≡ root.base
  base_read = ap (λ (l : List ℕ). from_le_bytes w64 (take 8 l)) past_id ∙ from_le_bytes-to_le_bytes_8 root.base fits.base

  pub length_read : from_le_bytes w32 (take 4 (drop 60 (root_bytes (in_two root)))) ≡ root.blob_length
  length_read = ap (λ (l : List ℕ). from_le_bytes w32 (take 4 l)) (sym (drop-drop 8 32 (drop 20 (root_bytes (in_two root))))) ∙ ap (λ (l : List ℕ). from_le_bytes w32 (take 4 (drop 8 l))) past_id ∙ from_le_bytes-to_le_bytes_4 root.blob_length fits.blob_length

  pub generation_read : from_le_bytes w64 (take 8 (drop 12 (root_bytes (in_two root)))) ≡ root.generation
  generation_read = from_le_bytes-to_le_bytes_8 root.generation fits.generation

  pub root_read : root_in (root_bytes (in_two root)) ≡ in_two root
  root_read = λ i. record { version = Two; generation = generation_read i; id = id_read i; base = base_read i; blob_length = length_read i }

  blank : zeros (drop 64 (root_bytes (in_two root))) ≡ true
  blank = ap (λ (l : List ℕ). zeros l) (sym (drop-drop 12 32 (drop 20 (root_bytes (in_two root))))) ∙ ap (λ (l : List ℕ). zeros (drop 12 l)) past_id

  pub valid_root : is_valid_root (root.generation % 2) (root_bytes (in_two root)) ≡ true
  valid_root =
      let slot : ((root_in (root_bytes (in_two root))).generation % 2 == root.generation % 2) ≡ true = rw generation_read (grind (arith, nat_tests)) in
      (λ i. blank i && slot i)

  in_slot : (image : List (List ℕ)) (slot : ℕ) → slot ≡ root.generation % 2 → sector_at image slot ≡ root_bytes (in_two root) → root_at slot image ≡ Some (in_two root)
  in_slot image slot is bytes =
      ap (λ (s : List ℕ). if is_valid_root slot s then Some (root_in s) else None) bytes
      ∙ ap (λ n. if is_valid_root n (root_bytes (in_two root)) then Some (root_in (root_bytes (in_two root))) else None) is
      ∙ ap (λ (b : Bool). if b then Some (root_in (root_bytes (in_two root))) else None) valid_root
      ∙ ap Some root_read

pub is_two : (root : Root) → root.version ≡ Two → root ≡ in_two root
is_two root two = λ i. record { version = two i; generation = root.generation; id = root.id; base = root.base; blob_length = root.blob_length }

-- the root of a slot that was written
pub root_written : (root : Root) → root.version ≡ Two → Fits root → (image : List (List ℕ)) (slot : ℕ) → slot ≡ root.generation % 2 → sector_at image slot ≡ root_bytes root → root_at slot image ≡ Some root
root_written root two fits image slot is bytes =
    let same : in_two root ≡ root = sym (is_two root two) in
    in_slot root fits image slot is (bytes ∙ ap root_bytes (sym same)) ∙ ap Some same
