-- Runs of sectors in an image.
use Rattle.std.proofs.Common.{◌≡◌, ℕ, ◌+◌, ◌-◌, ◌*◌, ◌<◌, ◌≤◌, List, [], ◌++◌, length, take, drop, get_or, sym, ap, ◌∙◌, arith, append_assoc, length-append, length-drop}
use Rattle.std.proofs.lemmas.List.{length-take-le, get_or_append_left, get_or-append-add, get_or-append_right, get_or-take, get_or-drop, drop_at, drop-drop, take-append-drop}
use Rattle.sector_device.specs.DiskState.{sector_at}
use Rattle.sector_log.specs.Layout.{replaced}
use Rattle.log_format.specs.Log.{log_sector, log_area}
use Rattle.input_entries.specs.declared.StoredEntry.{StoredEntry}
use Rattle.log_format.proofs.Areas.{length-log_area, log_area_at}

module _ (start : ℕ) (s image : List (List ℕ)) (room : start + length s ≤ length image) where
  front : length (take start image) ≡ start
  front = length-take-le start image (omega (arith, room))

  middle : length (take start image ++ s) ≡ start + length s
  middle = omega (arith, length-append (take start image) s, front)

  pub length-replaced : length (replaced start s image) ≡ length image
  length-replaced = omega (arith, length-append (take start image ++ s) (drop (start + length s) image), middle, length-drop (start + length s) image, room)

  pub replaced_at : (k : ℕ) → k < length s → sector_at (replaced start s image) (start + k) ≡ sector_at s k
  replaced_at k le =
      get_or_append_left (take start image ++ s) (drop (start + length s) image) [] (start + k) (omega (arith, middle))
      ∙ ap (λ n. get_or (take start image ++ s) (n + k) []) (sym front) ∙ get_or-append-add (take start image) s k []

  pub replaced_before : (k : ℕ) → k < start → sector_at (replaced start s image) k ≡ sector_at image k
  replaced_before k le =
      get_or_append_left (take start image ++ s) (drop (start + length s) image) [] k (omega (arith, middle))
      ∙ get_or_append_left (take start image) s [] k (omega (arith, front)) ∙ get_or-take start image k [] le

  pub replaced_after : (k : ℕ) → start + length s ≤ k → sector_at (replaced start s image) k ≡ sector_at image k
  replaced_after k le =
      let same : start + length s + (k - (start + length s)) ≡ k = omega arith in
      get_or-append_right (take start image ++ s) (drop (start + length s) image) (start + length s) k [] middle le
      ∙ get_or-drop (start + length s) image (k - (start + length s)) [] ∙ ap (λ n. get_or image n []) same

  pub replaced_from : drop start (replaced start s image) ≡ s ++ drop (start + length s) image
  replaced_from = ap (drop start) (append_assoc (take start image) s (drop (start + length s) image)) ∙ drop_at (take start image) (s ++ drop (start + length s) image) start front

-- what stands there already
pub replaced_is : (start : ℕ) (s image : List (List ℕ)) → take (length s) (drop start image) ≡ s → image ≡ replaced start s image
replaced_is start s image is = sym (append_assoc (take start image) s (drop (start + length s) image)
    ∙ ap (λ l. take start image ++ l) ((λ i. sym is i ++ sym (drop-drop (length s) start image) i) ∙ take-append-drop (length s) (drop start image)) ∙ take-append-drop start image)

-- a log sector of the new image
pub new_log_at : (start k : ℕ) (entries : List StoredEntry) (image : List (List ℕ)) → start + 32 ≤ length image → k < 32 → sector_at (replaced start (log_area entries) image) (start + k) ≡ log_sector k (take 84 (drop (84 * k) entries))
new_log_at start k entries image room le =
    replaced_at start (log_area entries) image (omega (arith, length-log_area entries)) k (omega (arith, length-log_area entries)) ∙ log_area_at k entries le
