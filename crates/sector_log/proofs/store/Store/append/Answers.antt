use Rattle.std.proofs.Common.{rules, ◌≡◌, ◌≤◌, ◌<◌, ◌+◌, ◌/◌, ℕ, length, List, Result, Ok, true, sym, ap, ◌∙◌, subst, arith}
use Rattle.std.proofs.lemmas.Bool.Decides.{nat_tests}
use Rattle.sector_device.specs.DiskState.{DiskState, Settled, HasSynced, sector_at}
use Rattle.sector_device.specs.Runs.{HoldsThroughout, HoldsSince, Mixed, WrittenUpTo}
use Rattle.sector_device.proofs.Runs.{has_synced, follows_then}
use Rattle.input_entries.specs.declared.StoredEntry.{StoredEntry}
use Rattle.input_entries.specs.Inputs.{inputs}
use Rattle.input_entries.proofs.CodeLengths.{entries_of_each}
use Rattle.log_format.specs.Appends.{HoldsPrefix, grown, fits}
use Rattle.log_format.specs.Log.{log_area}
use Rattle.log_format.proofs.Grown.{fits_means, length-grown}
use Rattle.sector_log.specs.Calls.{ChangesOpenLog, IsAppended}
use Rattle.sector_log.specs.Layout.{replaced}
use Rattle.sector_log.specs.Store.{IsStored, Kept}
use Rattle.sector_log.proofs.Appending.{kept_after, count_after, nothing_grown, nothing_added, log_stored, since_nothing_appended, since_nothing_written, since_writes, after_writes}
use Rattle.sector_log.proofs.store.Store.append.Given.{Over}
use Rattle.sector_log.proofs.store.Store.append.Goals.{After-add_inputs, After-write_log}
use Rattle.sector_log.proofs.store.Store.append.Goals as goal

-- what the store knows of the longer log
module _ (g : Over) (c : After-add_inputs g) where
  kept_now : Kept c.add_inputs.new.log.items
  kept_now = kept_after c.args.self.now.log.items c.add_inputs.new.log.items c.args.more.now c.args.self.now.kept c.add_inputs.ensures.five c.requires (sym c.fits.ensures ∙ c.if-not-fits.false) c.add_inputs.ensures.items

  count_now : c.args.self.now.input_count + length c.args.more.now ≡ length (inputs c.add_inputs.new.log.items)
  count_now = omega (arith, c.args.self.now.count, count_after c.args.self.now.log.items c.add_inputs.new.log.items c.args.more.now c.args.self.now.kept c.add_inputs.ensures.five c.requires (sym c.fits.ensures ∙ c.if-not-fits.false) c.add_inputs.ensures.items)

-- what is known of the device once the log was to be written
module _ (g : Over) (c : After-write_log g) where
  abbrev old : DiskState
  old = g.D.SectorDevice.disk c.args.self.now.device

  abbrev mid : DiskState
  mid = g.D.SectorDevice.disk c.write_log.new.device

  abbrev all : List StoredEntry
  all = c.deref.result.now

  abbrev new : List (List ℕ)
  new = replaced c.args.self.now.start (log_area all) old.sectors

  fit : fits c.args.self.now.log.items c.args.more.now ≡ true
  fit = sym c.fits.ensures ∙ c.if-not-fits.false

  is_all : all ≡ grown c.args.self.now.log.items c.args.more.now
  is_all = c.deref.ensures.value ∙ c.add_inputs.ensures.items

  rests : old.honest → IsStored old c.args.self.now.start c.args.self.now.root c.args.self.now.log.items
  rests = c.args.self.now.stored c.if-self.false

  held : old.honest → HoldsThroughout old mid (Mixed old.sectors new) (Mixed old.sectors new)
  held honest = c.write_log.ensures.moments honest (rests honest).settled

  since : (now : DiskState) → old.honest → HoldsThroughout old now (Mixed old.sectors new) (Mixed old.sectors new) → HoldsSince old now (HoldsPrefix old.sectors c.args.more.now) × HoldsSince old now (ChangesOpenLog old.sectors (length c.args.self.now.log.items))
  since now honest =
      since_writes old c.args.self.now.start c.args.self.now.root c.args.self.now.log.items all c.args.more.now (rests honest) c.args.self.now.kept c.add_inputs.ensures.five c.requires fit is_all
      (g.met.D.SectorDevice.only_now c.args.self.now.device) now

  since_write : old.honest → HoldsSince old mid (HoldsPrefix old.sectors c.args.more.now) × HoldsSince old mid (ChangesOpenLog old.sectors (length c.args.self.now.log.items))
  since_write honest = since mid honest (held honest)

  since_sync : {E : Type 0} {now : DiskState} {r : Result Unit E} → (mid.honest → HasSynced mid now r) → old.honest → HoldsSince old now (HoldsPrefix old.sectors c.args.more.now) × HoldsSince old now (ChangesOpenLog old.sectors (length c.args.self.now.log.items))
  since_sync {now} sync honest = since now honest (has_synced (held honest) (sync (held honest).honest))

  -- once both succeeded
  ended : {E : Type 0} {u : Unit {0}} (now : DiskState) → (mid.honest → HasSynced {E = E} mid now (Ok u))
      → (old.honest → Settled old → ((k : ℕ) → k < c.args.self.now.start + c.len.result / 84 → sector_at old.sectors k ≡ sector_at new k) → WrittenUpTo old.sectors new (c.args.self.now.start + (c.len-2.result + 83) / 84) mid.sectors)
      → old.honest → IsAppended old now c.args.more.now × IsStored now c.args.self.now.start c.args.self.now.root all
  ended now synced written honest =
      let size : c.len.result ≡ length c.args.self.now.log.items = search rules in
      let size_now : c.len-2.result ≡ length c.add_inputs.new.log.items = search rules in
      let s = synced (held honest).honest in
      after_writes old c.args.self.now.start c.args.self.now.root c.args.self.now.log.items all c.args.more.now (rests honest) c.args.self.now.kept c.add_inputs.ensures.five c.requires fit is_all
      (c.len.result / 84) ((c.len-2.result + 83) / 84) (ap (λ n. n / 84) size) (ap (λ n. (n + 83) / 84) (size_now ∙ ap length (sym c.deref.ensures.value))) mid now s.settled s.sectors (written honest (rests honest).settled)

pub returns-then-is_empty-clause-appended : goal.returns-then-is_empty-clause-appended
returns-then-is_empty-clause-appended g c =
    let self = c.args.self.now in
    let none : length c.args.more.now ≡ 0 = grind (arith, nat_tests) in
    record {
      was_unbroken = c.if-self.false;
      did_fit = sym c.fits.ensures ∙ c.if-not-fits.false;
      appended = λ honest. nothing_added (g.D.SectorDevice.disk self.device) self.start self.root self.log.items (self.stored c.if-self.false honest) self.kept c.args.more.now none;
      entries_are = nothing_grown self.log.items c.args.more.now none;
      reads = λ honest. log_stored (g.D.SectorDevice.disk self.device) self.start self.root self.log.items (self.stored c.if-self.false honest) self.kept;
    }

pub returns-clause-appended : goal.returns-clause-appended
returns-clause-appended g c =
    let before = (goal.at.returns-clause-appended g c).After-write_log in
    let now = g.D.SectorDevice.disk c.sync_once.new.device in
    record {
      was_unbroken = c.if-self.false;
      did_fit = fit g before;
      appended = λ honest. (ended g before now c.in_ok-sync_once.ensures.synced c.in_ok-write_log.ensures.written honest).0;
      entries_are = c.add_inputs.ensures.items;
      reads = λ honest. log_stored now c.args.self.now.start c.args.self.now.root c.deref.result.now (ended g before now c.in_ok-sync_once.ensures.synced c.in_ok-write_log.ensures.written honest).1
          (subst Kept (sym c.deref.ensures.value) (kept_now g (goal.at.returns-clause-appended g c).After-add_inputs)) ∙ c.deref.ensures.value;
    }

pub add_inputs-requires-clause-room : goal.add_inputs-requires-clause-room
add_inputs-requires-clause-room g c = omega (arith, (fits_means c.args.self.now.log.items c.args.more.now (sym c.fits.ensures ∙ c.if-not-fits.false)).0, c.args.self.now.reserved)

pub add_inputs-requires-clause-entries : goal.add_inputs-requires-clause-entries
add_inputs-requires-clause-entries g c = entries_of_each c.args.self.now.log.items c.args.self.now.kept.entries

pub add_inputs-requires-clause-few : goal.add_inputs-requires-clause-few
add_inputs-requires-clause-few g c = (fits_means c.args.self.now.log.items c.args.more.now (sym c.fits.ensures ∙ c.if-not-fits.false)).1

pub overflow_cast-self : goal.overflow_cast-self
overflow_cast-self g c =
    let few : length c.args.more.now ≤ 216000 = omega (arith, (fits_means c.args.self.now.log.items c.args.more.now (sym c.fits.ensures ∙ c.if-not-fits.false)).1) in
    omega (arith, few)

pub overflow_add-self : goal.overflow_add-self
overflow_add-self g c =
    let few : c.args.self.now.input_count + length c.args.more.now ≤ 216000 = omega (arith, (fits_means c.args.self.now.log.items c.args.more.now (sym c.fits.ensures ∙ c.if-not-fits.false)).1, c.args.self.now.count) in
    omega (arith, few)

pub overflow_cast-end : goal.overflow_cast-end
overflow_cast-end g c =
    let size : c.len-2.result ≡ length c.add_inputs.new.log.items = search rules in
    let few : (c.len-2.result + 83) / 84 ≤ 32 = omega (arith, (kept_now g (goal.at.overflow_cast-end g c).After-add_inputs).small, size) in
    omega (arith, few)

pub write_log-requires-clause-order : goal.write_log-requires-clause-order
write_log-requires-clause-order g c =
    let size : c.len.result ≡ length c.args.self.now.log.items = search rules in
    let now : c.len-2.result ≡ length c.add_inputs.new.log.items = search rules in
    omega (arith, size, now, ap length c.add_inputs.ensures.items, length-grown c.args.self.now.log.items c.args.more.now)

pub write_log-requires-clause-end : goal.write_log-requires-clause-end
write_log-requires-clause-end g c =
    let size : c.len-2.result ≡ length c.add_inputs.new.log.items = search rules in
    omega (arith, (kept_now g (goal.at.write_log-requires-clause-end g c).After-add_inputs).small, size)

pub write_log-requires-clause-log : goal.write_log-requires-clause-log
write_log-requires-clause-log g c = omega (arith, (kept_now g (goal.at.write_log-requires-clause-log g c).After-add_inputs).small, ap length c.deref.ensures.value)

pub returns-in_err-write_log-clause-images : goal.returns-in_err-write_log-clause-images
returns-in_err-write_log-clause-images g c = λ _ honest. (since_write g (goal.at.returns-in_err-write_log-clause-images g c).After-write_log honest).0

pub returns-in_err-write_log-clause-writes : goal.returns-in_err-write_log-clause-writes
returns-in_err-write_log-clause-writes g c = λ _ honest. (since_write g (goal.at.returns-in_err-write_log-clause-writes g c).After-write_log honest).1

pub returns-in_err-sync_once-clause-images : goal.returns-in_err-sync_once-clause-images
returns-in_err-sync_once-clause-images g c = λ _ honest. (since_sync g (goal.at.returns-in_err-sync_once-clause-images g c).After-write_log c.sync_once.ensures.synced honest).0

pub returns-in_err-sync_once-clause-writes : goal.returns-in_err-sync_once-clause-writes
returns-in_err-sync_once-clause-writes g c = λ _ honest. (since_sync g (goal.at.returns-in_err-sync_once-clause-writes g c).After-write_log c.sync_once.ensures.synced honest).1

pub returns-clause-images : goal.returns-clause-images
returns-clause-images g c = λ _ honest. (since_sync g (goal.at.returns-clause-images g c).After-write_log c.sync_once.ensures.synced honest).0

pub returns-clause-writes : goal.returns-clause-writes
returns-clause-writes g c = λ _ honest. (since_sync g (goal.at.returns-clause-writes g c).After-write_log c.sync_once.ensures.synced honest).1

pub returns-clause-answered : goal.returns-clause-answered
returns-clause-answered g c = record {
  count = search rules;
  honest = search rules;
  faults_ok = search rules;
  faults = search rules;
  follows = follows_then c.write_log.ensures.called.follows c.sync_once.ensures.called.follows;
  handed = search rules;
  fuse = search rules;
}

pub invariant_of-self : goal.invariant_of-self
invariant_of-self g c =
    let before = (goal.at.invariant_of-self g c).After-add_inputs in
    record {
      placed = search rules;
      range = search rules;
      reserved = omega (arith, c.args.self.now.reserved, c.add_inputs.ensures.capacity);
      kept = kept_now g before;
      count = count_now g before;
      stored = search rules;
    }

pub invariant_of-self-in-Break-branch-2 : goal.invariant_of-self-in-Break-branch-2
invariant_of-self-in-Break-branch-2 g c =
    let before = (goal.at.invariant_of-self-in-Break-branch-2 g c).After-add_inputs in
    record {
      placed = search rules;
      range = search rules;
      reserved = omega (arith, c.args.self.now.reserved, c.add_inputs.ensures.capacity);
      kept = kept_now g before;
      count = count_now g before;
      stored = search rules;
    }

pub invariant_of-self-2-clause-kept : goal.invariant_of-self-2-clause-kept
invariant_of-self-2-clause-kept g c = kept_now g (goal.at.invariant_of-self-2-clause-kept g c).After-add_inputs

pub invariant_of-self-2-clause-count : goal.invariant_of-self-2-clause-count
invariant_of-self-2-clause-count g c = count_now g (goal.at.invariant_of-self-2-clause-count g c).After-add_inputs

pub invariant_of-self-2-clause-stored : goal.invariant_of-self-2-clause-stored
invariant_of-self-2-clause-stored g c = λ _ honest_now.
    let honest = c.write_log.ensures.called.honest.0 (c.sync_once.ensures.called.honest.0 honest_now) in
    let now = g.D.SectorDevice.disk c.sync_once.new.device in
    subst (λ (l : List StoredEntry). IsStored now c.args.self.now.start c.args.self.now.root l) c.deref.ensures.value
    (ended g (goal.at.invariant_of-self-2-clause-stored g c).After-write_log now c.in_ok-sync_once.ensures.synced c.in_ok-write_log.ensures.written honest).1

pub returns-then-is_empty-clause-images : goal.returns-then-is_empty-clause-images
returns-then-is_empty-clause-images g c = λ open_before honest.
    let self = c.args.self.now in
    since_nothing_appended (g.D.SectorDevice.disk self.device) self.start self.root self.log.items (self.stored open_before honest) self.kept (g.met.D.SectorDevice.only_now self.device) c.args.more.now

pub returns-then-not-fits-clause-images : goal.returns-then-not-fits-clause-images
returns-then-not-fits-clause-images g c = λ open_before honest.
    let self = c.args.self.now in
    since_nothing_appended (g.D.SectorDevice.disk self.device) self.start self.root self.log.items (self.stored open_before honest) self.kept (g.met.D.SectorDevice.only_now self.device) c.args.more.now

pub returns-then-is_empty-clause-writes : goal.returns-then-is_empty-clause-writes
returns-then-is_empty-clause-writes g c = λ open_before honest.
    let self = c.args.self.now in
    since_nothing_written (g.D.SectorDevice.disk self.device) self.start self.root self.log.items (self.stored open_before honest) self.kept (g.met.D.SectorDevice.only_now self.device)

pub returns-then-not-fits-clause-writes : goal.returns-then-not-fits-clause-writes
returns-then-not-fits-clause-writes g c = λ open_before honest.
    let self = c.args.self.now in
    since_nothing_written (g.D.SectorDevice.disk self.device) self.start self.root self.log.items (self.stored open_before honest) self.kept (g.met.D.SectorDevice.only_now self.device)
