-- How the entries of a log are packed in its sectors.
use Rattle.std.proofs.Common.{◌≡◌, ℕ, zero, suc, ◌+◌, ◌≤◌, List, [], ◌∷◌, ◌++◌, length, take, refl, ap, arith}
use Rattle.input_entries.specs.Inputs.{all_entries}
use Rattle.input_entries.specs.declared.StoredEntry.{StoredEntry}
use Rattle.input_entries.proofs.CodeLengths.{AreCodes}
use Rattle.input_entries.proofs.Sectors.{Packing, all_back}
use Rattle.log_format.specs.Log.{entries_at, log_from, log_sector, log_sectors, log_area}
use Rattle.log_format.specs.declared.root.Version.TheVariants.{Two}
use Rattle.log_format.proofs.Areas.{length-log_sectors, log_sectors_at}
use Rattle.log_format.proofs.Codec.{entries_written}

abbrev pub log_packing : Packing
log_packing = record {
  per = 84;
  limit = 65536;
  read = entries_at Two;
  write = log_sector;
  from = log_from Two;
  some = omega arith;
  back = λ index es small few codes _. entries_written index es small few codes;
  nothing = λ index. refl;
  none = λ index. refl;
  next = λ index s sectors. refl;
}

-- a log that stands in its sectors is read back
pub read_back : (log : List StoredEntry) → AreCodes log → all_entries log → length log ≤ 2688 → log_from Two 0 (log_area log) ≡ log
unfolding log_area
read_back log codes are small = all_back log_packing (log_sectors 32 0 log) 0 log (omega (arith, length-log_sectors 32 0 log)) (omega (arith, small, length-log_sectors 32 0 log)) codes are
    (λ k le. log_sectors_at 32 0 k log (omega (arith, le, length-log_sectors 32 0 log)))

pub take-past : {X : Type 0} → (xs ys : List X) (m n : ℕ) → m ≡ length xs + n → take m (xs ++ ys) ≡ xs ++ take n ys
take-past [] ys m n is = let same : m ≡ n = omega arith in ap (λ (k : ℕ). take k ys) same
take-past (x ∷ xs) ys zero n is = absurd (omega arith)
take-past (x ∷ xs) ys (suc m) n is = ap (λ l. x ∷ l) (take-past xs ys m n (omega arith))
