use Rattle.std.proofs.Common.{◌≡◌, ◌≤◌, ◌<◌, ◌+◌, ◌-◌, ◌*◌, ℕ, List, length, true, refl, sym, ap, ◌∙◌, subst, arith}
use Rattle.std.proofs.lemmas.Bool.Decides.{nat_tests}
use Rattle.sector_device.specs.DiskState.{DiskState, Settled}
use Rattle.sector_device.specs.Runs.{HoldsThroughout, HoldsSince, Mixed}
use Rattle.input_entries.specs.Growing.{with_inputs}
use Rattle.input_entries.specs.declared.StoredEntry.{StoredEntry}
use Rattle.recording.specs.Calls.{HoldsPrefix, KeepsFull, IsAppended}
use Rattle.recording.specs.Growing.{fits}
use Rattle.recording.specs.Keeping.{BlankFrom, blanked, grown_image, HasPacked, Kept, IsStored}
use Rattle.recording.specs.Sizes.{list_sectors_in, sectors_for}
use Rattle.recording.proofs.Appending.{fits_means, no_overflow, kept_after, clearing, writing, written, appended, stored'}
use Rattle.recording.proofs.Images.{most_is, fits_of_image}
use Rattle.recording.proofs.recording.Recording.append.Given.{Over}
use Rattle.recording.proofs.recording.Recording.append.Goals.{After-clear_rest}
use Rattle.recording.proofs.recording.Recording.append.Goals as goal

pub fits-requires-clause-sectors : goal.fits-requires-clause-sectors
fits-requires-clause-sectors g c =
    let small : c.list_sectors_in.result - c.args.self.now.full < 4294967296 = omega (arith, c.list_sectors_in.ensures, most_is) in
    omega (arith, small)

pub returns-then-not-fits-clause-full : goal.returns-then-not-fits-clause-full
returns-then-not-fits-clause-full g c = λ is honest.
    let self = c.args.self.now in
    let old = g.D.SectorDevice.disk self.device in
    fits_of_image old.sectors self.full self.tail.items (self.stored c.if-self.false honest).ends (self.kept c.if-self.false).short c.args.more.now
    ∙ (λ i. fits (sym c.deref.ensures.value i) (sym (c.list_sectors_in.ensures ∙ ap list_sectors_in c.count.ensures) i - self.full) c.args.more.now) ∙ sym c.fits.ensures.fits ∙ c.if-not-fits.true

-- what is known once the sectors after the list were to be cleared
module _ (g : Over) (c : After-clear_rest g) where
  abbrev old : DiskState
  old = g.D.SectorDevice.disk c.args.self.now.device

  abbrev mid : DiskState
  mid = g.D.SectorDevice.disk c.clear_rest.new.device

  abbrev full : ℕ
  full = c.args.self.now.full

  abbrev tail : List StoredEntry
  tail = c.args.self.now.tail.items

  abbrev list : List StoredEntry
  list = with_inputs tail c.args.more.now

  abbrev first : ℕ
  first = c.sectors_used-first.result + 1

  fit : fits tail (list_sectors_in (length old.sectors) - full) c.args.more.now ≡ true
  fit = (λ i. fits (sym c.deref.ensures.value i) (sym (c.list_sectors_in.ensures ∙ ap list_sectors_in c.count.ensures) i - full) c.args.more.now) ∙ sym c.fits.ensures.fits ∙ c.if-not-fits.false

  room : length list ≤ 83 * (list_sectors_in (length old.sectors) - full)
  room = fits_means tail (list_sectors_in (length old.sectors) - full) c.args.more.now fit

  first_is : first ≡ 1 + full + sectors_for (length tail)
  first_is = omega (arith, c.sectors_used-first.ensures.used)

  stored : old.honest → IsStored old full tail c.args.self.now.input_count c.args.self.now.blank_after
  stored = c.args.self.now.stored c.if-self.false

  kept_now : (full' : ℕ) (tail' : List StoredEntry) → HasPacked full list full' tail' → Kept (length old.sectors) full' tail' (c.args.self.now.input_count + length c.args.more.now)
  kept_now = kept_after (length old.sectors) full tail c.args.self.now.input_count c.args.more.now (c.args.self.now.kept c.if-self.false) c.fits.ensures.five c.requires room

  cleared_since : old.honest → HoldsSince old mid (HoldsPrefix old.sectors c.args.more.now) × HoldsSince old mid (KeepsFull old.sectors full)
  cleared_since honest =
      clearing old full tail c.args.self.now.input_count c.args.self.now.blank_after c.args.more.now (stored honest) (c.args.self.now.kept c.if-self.false) c.fits.ensures.five c.requires room mid first first_is
      (c.clear_rest.ensures.moments honest (stored honest).settled) (g.met.D.SectorDevice.only_now c.args.self.now.device)

  -- and then the inputs were to be written
  module _ (now : DiskState) (clears : old.honest → Settled old → (c.args.self.now.blank_after ≡ true → BlankFrom old.sectors first) → Settled mid × (mid.sectors ≡ blanked first old.sectors))
      (writes : mid.honest → Settled mid → HoldsThroughout mid now (Mixed mid.sectors (grown_image full list mid.sectors)) (Mixed mid.sectors (grown_image full list mid.sectors))) where
    written_since : old.honest → HoldsSince old now (HoldsPrefix old.sectors c.args.more.now) × HoldsSince old now (KeepsFull old.sectors full)
    written_since honest =
        writing old full tail c.args.self.now.input_count c.args.self.now.blank_after c.args.more.now (stored honest) (c.args.self.now.kept c.if-self.false) c.fits.ensures.five c.requires room mid first first_is
        (c.clear_rest.ensures.moments honest (stored honest).settled) (g.met.D.SectorDevice.only_now c.args.self.now.device) now (clears honest (stored honest).settled) writes

    finished : (mid.honest → Settled mid → BlankFrom mid.sectors (1 + full + sectors_for (length tail)) → Settled now × (now.sectors ≡ grown_image full list mid.sectors)) → old.honest
        → IsAppended old now c.args.more.now × ((full' : ℕ) (tail' : List StoredEntry) → HasPacked full list full' tail' → IsStored now full' tail' (c.args.self.now.input_count + length c.args.more.now) true)
    finished synced honest =
        let end = written old full tail c.args.self.now.input_count c.args.self.now.blank_after c.args.more.now (stored honest) (c.args.self.now.kept c.if-self.false) c.fits.ensures.five c.requires room mid first first_is
        (c.clear_rest.ensures.moments honest (stored honest).settled) (g.met.D.SectorDevice.only_now c.args.self.now.device) now (clears honest (stored honest).settled) writes synced in (
          appended old full tail c.args.self.now.input_count c.args.self.now.blank_after c.args.more.now (stored honest) (c.args.self.now.kept c.if-self.false) c.fits.ensures.five c.requires room now end.0 end.1,
          λ full' tail' packed. stored' old full tail c.args.self.now.input_count c.args.self.now.blank_after c.args.more.now (stored honest) (c.args.self.now.kept c.if-self.false) c.fits.ensures.five c.requires room full' tail' packed now end.0 end.1,
        )

pub returns-in_err-clear_rest-clause-images : goal.returns-in_err-clear_rest-clause-images
returns-in_err-clear_rest-clause-images g c = λ _ honest. (cleared_since g (goal.at.returns-in_err-clear_rest-clause-images g c).After-clear_rest honest).0

pub returns-in_err-clear_rest-clause-writes : goal.returns-in_err-clear_rest-clause-writes
returns-in_err-clear_rest-clause-writes g c = λ _ honest. (cleared_since g (goal.at.returns-in_err-clear_rest-clause-writes g c).After-clear_rest honest).1

pub write_inputs-requires-clause-fits : goal.write_inputs-requires-clause-fits
write_inputs-requires-clause-fits g c = omega (arith, room g (goal.at.write_inputs-requires-clause-fits g c).After-clear_rest, ap list_sectors_in c.clear_rest.ensures.called.count)

pub returns-in_err-self-clause-images : goal.returns-in_err-self-clause-images
returns-in_err-self-clause-images g c = λ _ honest.
    (written_since g (goal.at.returns-in_err-self-clause-images g c).After-clear_rest (g.D.SectorDevice.disk c.write_inputs.new.device) c.in_ok-clear_rest.ensures.cleared c.write_inputs.ensures.moments honest).0

pub returns-in_err-self-clause-writes : goal.returns-in_err-self-clause-writes
returns-in_err-self-clause-writes g c = λ _ honest.
    (written_since g (goal.at.returns-in_err-self-clause-writes g c).After-clear_rest (g.D.SectorDevice.disk c.write_inputs.new.device) c.in_ok-clear_rest.ensures.cleared c.write_inputs.ensures.moments honest).1

pub overflow_add-self : goal.overflow_add-self
overflow_add-self g c =
    let kept = kept_now g (goal.at.overflow_add-self g c).After-clear_rest c.in_ok-self.field-0 c.write_inputs.new.tail.items c.in_ok-self.ensures.packed in
    omega (arith, no_overflow _ c.in_ok-self.field-0 c.write_inputs.new.tail.items (c.args.self.now.input_count + length c.args.more.now) kept)

pub invariant_of-self-2 : goal.invariant_of-self-2
invariant_of-self-2 g c =
    let before = (goal.at.invariant_of-self-2 g c).After-clear_rest in
    let some : 0 < length c.args.more.now = grind (arith, nat_tests) in
    record {
      room = omega (arith, c.args.self.now.room, c.write_inputs.ensures.capacity);
      page_room = c.args.self.now.page_room;
      kept = λ _. subst (λ n. Kept n c.in_ok-self.field-0 c.write_inputs.new.tail.items (c.args.self.now.input_count + length c.args.more.now)) (sym (c.write_inputs.ensures.called.count ∙ c.clear_rest.ensures.called.count))
          (kept_now g before c.in_ok-self.field-0 c.write_inputs.new.tail.items c.in_ok-self.ensures.packed);
      stored = λ _ honest.
          (finished g before (g.D.SectorDevice.disk c.write_inputs.new.device) c.in_ok-clear_rest.ensures.cleared c.write_inputs.ensures.moments (λ h s. c.in_ok-self.ensures.written h s some)
          (c.clear_rest.ensures.called.honest.0 (c.write_inputs.ensures.called.honest.0 honest))).1 c.in_ok-self.field-0 c.write_inputs.new.tail.items c.in_ok-self.ensures.packed;
    }

pub returns-clause-images : goal.returns-clause-images
returns-clause-images g c = λ _ honest.
    (written_since g (goal.at.returns-clause-images g c).After-clear_rest (g.D.SectorDevice.disk c.write_inputs.new.device) c.in_ok-clear_rest.ensures.cleared c.write_inputs.ensures.moments honest).0

pub returns-clause-writes : goal.returns-clause-writes
returns-clause-writes g c = λ _ honest.
    (written_since g (goal.at.returns-clause-writes g c).After-clear_rest (g.D.SectorDevice.disk c.write_inputs.new.device) c.in_ok-clear_rest.ensures.cleared c.write_inputs.ensures.moments honest).1

pub returns-clause-appended : goal.returns-clause-appended
returns-clause-appended g c =
    let before = (goal.at.returns-clause-appended g c).After-clear_rest in
    let some : 0 < length c.args.more.now = grind (arith, nat_tests) in
    record {
      was_unbroken = c.if-self.false;
      did_fit = fit g before;
      appended = λ honest.
          (finished g before (g.D.SectorDevice.disk c.write_inputs.new.device) c.in_ok-clear_rest.ensures.cleared c.write_inputs.ensures.moments (λ h s. c.in_ok-self.ensures.written h s some) honest).0;
      count_is = refl;
    }
