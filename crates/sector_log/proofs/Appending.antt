-- The steps of one append, over the disk of the device.
use Rattle.std.proofs.Common.{◌≡◌, inl, ℕ, ◌+◌, ◌/◌, ◌<◌, ◌≤◌, List, [], ◌∷◌, length, refl, sym, ap, ◌∙◌, subst, arith, false, true, nat_le, take, length-append}
use Rattle.std.proofs.lemmas.List.{append-nil, take-append-drop}
use Rattle.std.proofs.lemmas.Bool.Decides.{nat_tests}
use Rattle.std.specs.List.{flat_map}
use Rattle.sector_device.specs.DiskState.{DiskState, Settled, sector_at}
use Rattle.sector_device.specs.Runs.{HoldsThroughout, HoldsSince, Mixed, WrittenUpTo}
use Rattle.sector_device.proofs.Runs.{since_mixed, since_settled}
use Rattle.input_entries.specs.Inputs.{inputs, all_input, AllFive}
use Rattle.input_entries.specs.declared.Entry.{Entry}
use Rattle.input_entries.specs.declared.StoredEntry.{StoredEntry}
use Rattle.input_entries.proofs.CodeLengths.{codes_of_each, each_of_codes, each_of_entries}
use Rattle.log_format.specs.Content.{header_of, content}
use Rattle.log_format.specs.Found.{log_of}
use Rattle.log_format.specs.Log.{log_area}
use Rattle.log_format.specs.Appends.{sealed, grown, fits, HoldsPrefix}
use Rattle.log_format.specs.declared.root.Root.{Root}
use Rattle.log_format.proofs.Grown.{fits_means, whole_grown, codes_grown}
use Rattle.sector_log.specs.Layout.{replaced}
use Rattle.sector_log.specs.Calls.{ChangesOpenLog, IsAppended}
use Rattle.sector_log.specs.Store.{IsStored, Kept}
use Rattle.sector_log.proofs.AppendContent.{are_inputs, behind, content_base, holds_more, changes_open, same_front, all_written, added, rests_after}

-- what the store keeps of the longer log
module _ (log all : List StoredEntry) (new : List Entry) (kept : Kept log) (fives : AllFive new) (input : all_input new) (fit : fits log new ≡ true) (is_all : all ≡ grown log new) where
  pub count_after : length (inputs log) + length new ≡ length (inputs all)
  count_after = omega (arith, ap (λ l. length (inputs l)) is_all, ap length (whole_grown log new (codes_of_each log kept.six) fives (are_inputs log kept) input (fits_means log new fit).1).stand, length-append (inputs log) new)

  pub kept_after : Kept all
  kept_after =
      let means = fits_means log new fit in
      subst Kept (sym is_all) (record {
        six = each_of_codes (grown log new) (codes_grown log new (codes_of_each log kept.six) fives (are_inputs log kept) input means.1);
        entries = each_of_entries (grown log new) (whole_grown log new (codes_of_each log kept.six) fives (are_inputs log kept) input means.1).each;
        few = omega (arith, count_after, ap (λ l. length (inputs l)) is_all, means.1);
        small = means.0;
      })

pub nothing_grown : (log : List StoredEntry) (new : List Entry) → length new ≡ 0 → log ≡ grown log new
unfolding grown
nothing_grown log [] none = sym (take-append-drop (sealed log) log)
nothing_grown log (e ∷ new) none = absurd (omega arith)

module _ (now : DiskState) (start : ℕ) (root : Root) (log : List StoredEntry) (rests : IsStored now start root log) (kept : Kept log) where
  pub nothing_added : (new : List Entry) → length new ≡ 0 → IsAppended now now new
  nothing_added [] none = record {
    settled = rests.settled;
    generation_is = refl;
    adds = record {
      header = header_of root;
      blob = take root.blob_length (flat_map (λ (s : List ℕ). s) (behind now start root log rests));
      before = log;
      after = log;
      old_is = content_base now start root log rests kept;
      new_is = content_base now start root log rests kept;
      are = are_inputs log kept;
      adds = sym (append-nil (inputs log));
    };
  }
  nothing_added (e ∷ new) none = absurd (omega arith)

  -- reads give the log that is kept
  pub log_stored : log_of (content now.sectors) ≡ log
  log_stored = ap log_of (content_base now start root log rests kept)

  -- nothing was written
  module _ (only : (c : List (List ℕ)) → now.since now.moment c → now.image c) where
    pub since_nothing_appended : (new : List Entry) → HoldsSince now now (HoldsPrefix now.sectors new)
    since_nothing_appended new = since_settled only rests.settled (record { count = 0; within = omega arith; adds = (nothing_added [] refl).adds; generation_is = refl })

    pub since_nothing_written : HoldsSince now now (ChangesOpenLog now.sectors (length log))
    since_nothing_written = since_settled only rests.settled (record { size = refl; each = λ k. inl refl })

-- a run of writes, whose log is `all`
module _ (old : DiskState) (start : ℕ) (root : Root) (log all : List StoredEntry) (new : List Entry) (rests : IsStored old start root log) (kept : Kept log) (fives : AllFive new) (input : all_input new)
    (fit : fits log new ≡ true) (is_all : all ≡ grown log new) where
  abbrev with_all : List (List ℕ)
  with_all = replaced start (log_area all) old.sectors

  pub since_writes : ((c : List (List ℕ)) → old.since old.moment c → old.image c) → (now : DiskState) → HoldsThroughout old now (Mixed old.sectors with_all) (Mixed old.sectors with_all)
      → HoldsSince old now (HoldsPrefix old.sectors new) × HoldsSince old now (ChangesOpenLog old.sectors (length log))
  since_writes only now held = (
    since_mixed with_all only rests.settled held (λ c mixed. holds_more old start root log rests kept new fives input fit c (subst (λ (l : List StoredEntry). Mixed old.sectors (replaced start (log_area l) old.sectors) c) is_all mixed)),
    since_mixed with_all only rests.settled held (λ c mixed. changes_open old start root log rests kept new fives input fit c (subst (λ (l : List StoredEntry). Mixed old.sectors (replaced start (log_area l) old.sectors) c) is_all mixed)),
  )

  -- after the sync
  pub after_writes : (first end : ℕ) → first ≡ length log / 84 → end ≡ (length all + 83) / 84 → (mid now : DiskState) → Settled now → now.sectors ≡ mid.sectors
      → (((k : ℕ) → k < start + first → sector_at old.sectors k ≡ sector_at with_all k) → WrittenUpTo old.sectors with_all (start + end) mid.sectors) → IsAppended old now new × IsStored now start root all
  after_writes first end first_is end_is mid now settled same written =
      let whole : mid.sectors ≡ replaced start (log_area (grown log new)) old.sectors =
      all_written old start root log rests kept new fives input fit end (end_is ∙ ap (λ (l : List StoredEntry). (length l + 83) / 84) is_all) mid.sectors
      (subst (λ (l : List StoredEntry). WrittenUpTo old.sectors (replaced start (log_area l) old.sectors) (start + end) mid.sectors) is_all
      (written (λ k le. same_front old start root log rests kept new fives input fit k (omega (arith, le, first_is)) ∙ ap (λ (l : List StoredEntry). sector_at (replaced start (log_area l) old.sectors) k) (sym is_all)))) in (
        added old start root log rests kept new fives input fit now settled (same ∙ whole),
        subst (IsStored now start root) (sym is_all) (rests_after old start root log rests kept new fives input fit now settled (same ∙ whole)),
      )

pub too_many : (log : List StoredEntry) (new : List Entry) → 216000 < length (inputs log) + length new → false ≡ fits log new
unfolding fits
too_many log new many = grind (arith, nat_tests)

pub fits_by_entries : (log : List StoredEntry) (new : List Entry) → length (inputs log) + length new ≤ 216000 → nat_le (length (grown log new)) 2688 ≡ fits log new
unfolding fits
fits_by_entries log new few = grind (arith, nat_tests)
