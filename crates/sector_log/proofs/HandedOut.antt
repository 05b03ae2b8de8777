-- A store whose device has handed out some of its calls.
use Rattle.std.proofs.Common.{◌≡◌, ◌∙◌, ℕ, List, sym, ap, subst, length, ◌+◌, ◌≤◌}
use Rattle.sector_device.specs.DiskState.{DiskState, HasHanded}
use Rattle.sector_device.proofs.HandedOut.{settled_still}
use Rattle.input_entries.specs.declared.StoredEntry.{StoredEntry}
use Rattle.log_format.specs.declared.root.Root.{Root}
use Rattle.log_format.specs.Content.{chosen, area_length, area_start, blob_sectors}
use Rattle.log_format.specs.Log.{log_area}
use Rattle.log_format.specs.Sizes.{log_sectors_per_area}
use Rattle.sector_log.specs.Layout.{replaced}
use Rattle.sector_log.specs.Store.{IsStored}

module _ {old now : DiskState} (handed : HasHanded old now) where
  on_sectors : (P : List (List ℕ) → Type 0) → P old.sectors → P now.sectors
  on_sectors P p = subst P (sym handed.sectors) p

  pub stored_still : {start : ℕ} {root : Root} {log : List StoredEntry} → IsStored old start root log → IsStored now start root log
  stored_still {start} {root} {log} is = record {
    version_is = is.version_is;
    settled = settled_still handed is.settled;
    chosen_is = ap chosen handed.sectors ∙ is.chosen_is;
    start_is = ap (area_start root.generation) handed.sectors ∙ is.start_is;
    within = on_sectors (λ s. start + area_length s ≤ length s) is.within;
    fits = on_sectors (λ s. log_sectors_per_area + blob_sectors root.blob_length ≤ area_length s) is.fits;
    log_is = on_sectors (λ s. s ≡ replaced start (log_area log) s) is.log_is;
  }
