use Rattle.std.proofs.Common.{rules, ◌≡◌, ◌<◌, ◌≤◌, ◌+◌, ℕ, List, [], length, sym, ap, ◌∙◌, subst, arith}
use Rattle.sector_device.specs.DiskState.{sector_at}
use Rattle.sector_device.proofs.Looking.{looked_read, looks_then}
use Rattle.sector_device.proofs.Runs.{one_more, all_called, failed_then}
use Rattle.input_entries.specs.Inputs.{inputs}
use Rattle.recording.specs.Format.{entries_at}
use Rattle.recording.specs.Keeping.{EndsAt}
use Rattle.recording.specs.Sizes.{list_sectors, list_sectors_in}
use Rattle.recording.proofs.Images.{most_is, length-list_sectors, each_more, counted_more, ends_here, counted_here, ends_last}
use Rattle.recording.proofs.reading.read_list.Given.{Over}
use Rattle.recording.proofs.reading.read_list.Goals.{After-read_entries, After-clear}
use Rattle.recording.proofs.reading.read_list.Goals as goal

pub overflow_cast-full : goal.overflow_cast-full
overflow_cast-full g c =
    let many : c.loop-full.full < 4294967295 = omega (arith, c.loop-full-test.true, c.list_sectors_in-sectors.ensures, most_is) in
    omega (arith, many)

pub overflow_add-input_count : goal.overflow_add-input_count
overflow_add-input_count g c =
    let many : c.loop-full.full < 4294967295 = omega (arith, c.loop-full-test.true, c.list_sectors_in-sectors.ensures, most_is) in
    omega (arith, many, c.loop-full.invariant.few, c.count_inputs-input_count.ensures.few)

-- what the sector that was read tells of an honest device
module _ (g : Over) (c : After-read_entries g) where
  abbrev old : List (List ℕ)
  old = (g.D.SectorDevice.disk c.args.device.now).sectors

  abbrev full : ℕ
  full = c.loop-full.full

  less : full < length (list_sectors old)
  less = omega (arith, c.loop-full-test.true, c.list_sectors_in-sectors.ensures, ap list_sectors_in c.count-count.ensures, length-list_sectors old)

  is : (g.D.SectorDevice.disk c.args.device.now).honest → c.read.new.buffer ≡ sector_at old (full + 1)
  is honest = let looked = c.loop-full.invariant.looked honest in (c.in_ok-read.ensures.read looked.honest).bytes_are ∙ ap (λ l. sector_at l (full + 1)) looked.sectors

  ends : (g.D.SectorDevice.disk c.args.device.now).honest → EndsAt old full c.read_entries.new.entries.items
  ends honest = subst (EndsAt old full) (sym c.read_entries.ensures.items) (ends_here old full c.loop-full.input_count (c.loop-full.invariant.each_full honest) (c.loop-full.invariant.counted honest) c.read.new.buffer (is honest) less)

pub returns-then-len-lt-ENTRIES_PER_SECTOR-clause-ends : goal.returns-then-len-lt-ENTRIES_PER_SECTOR-clause-ends
returns-then-len-lt-ENTRIES_PER_SECTOR-clause-ends g c = ends g (goal.at.returns-then-len-lt-ENTRIES_PER_SECTOR-clause-ends g c).After-read_entries

pub returns-then-len-lt-ENTRIES_PER_SECTOR-clause-counted : goal.returns-then-len-lt-ENTRIES_PER_SECTOR-clause-counted
returns-then-len-lt-ENTRIES_PER_SECTOR-clause-counted g c = λ honest.
    let before = (goal.at.returns-then-len-lt-ENTRIES_PER_SECTOR-clause-counted g c).After-read_entries in
    let short : length c.read_entries.new.entries.items < 83 = search rules in
    counted_here (old g before) c.loop-full.full c.loop-full.input_count (c.loop-full.invariant.each_full honest) (c.loop-full.invariant.counted honest) c.read_entries.new.entries.items (c.loop-full.input_count + c.count_inputs-input_count.result) (ends g before honest) short
    (ap (λ n. c.loop-full.input_count + n) (c.count_inputs-input_count.ensures.count ∙ ap (λ l. length (inputs l)) c.deref.ensures.value))

pub loop-full-preserved : goal.loop-full-preserved
loop-full-preserved g c =
    let before = (goal.at.loop-full-preserved g c).After-read_entries in
    let full = c.loop-full.full in
    let long : 83 ≤ length c.read_entries.new.entries.items = search rules in
    let whole : length (entries_at (full + 1) c.read.new.buffer) ≡ 83 = omega (arith, ap length c.read_entries.ensures.items, c.read_entries.ensures.few, long) in
    let some : c.count_inputs-input_count.result ≡ length (inputs (entries_at (full + 1) c.read.new.buffer)) = c.count_inputs-input_count.ensures.count ∙ ap (λ l. length (inputs l)) (c.deref.ensures.value ∙ c.read_entries.ensures.items) in
    record {
      called = one_more c.loop-full.invariant.called c.in_ok-read.ensures.called;
      capacity = omega (arith, c.loop-full.invariant.capacity, c.read_entries.ensures.capacity);
      few = omega (arith, c.loop-full.invariant.few, c.count_inputs-input_count.ensures.few);
      looked = looks_then c.loop-full.invariant.looked (λ h. looked_read (c.read.ensures.read h));
      each_full = λ honest. each_more (old g before) full c.loop-full.input_count (c.loop-full.invariant.each_full honest) (c.loop-full.invariant.counted honest) c.read.new.buffer (is g before honest) (less g before) whole;
      counted = λ honest.
          counted_more (old g before) full c.loop-full.input_count (c.loop-full.invariant.each_full honest) (c.loop-full.invariant.counted honest) c.read.new.buffer (c.loop-full.input_count + c.count_inputs-input_count.result) (is g before honest) (less g before)
          (ap (λ n. c.loop-full.input_count + n) some);
    }

-- the list fills all of its sectors
at_end : (g : Over) (c : After-clear g) → (g.D.SectorDevice.disk c.args.device.now).honest → EndsAt (g.D.SectorDevice.disk c.args.device.now).sectors c.loop-full.full []
at_end g c honest =
    let old = (g.D.SectorDevice.disk c.args.device.now).sectors in
    let size : length (list_sectors old) ≡ c.loop-full.full = omega (arith, length-list_sectors old, ap list_sectors_in c.count-count.ensures, c.list_sectors_in-sectors.ensures, c.loop-full.auto.full-end, c.loop-full-test.false) in
    ends_last old c.loop-full.full c.loop-full.input_count (c.loop-full.invariant.each_full honest) (c.loop-full.invariant.counted honest) size

pub returns-clause-ends : goal.returns-clause-ends
returns-clause-ends g c = λ honest.
    let old = (g.D.SectorDevice.disk c.args.device.now).sectors in
    let end : c.loop-full.full ≡ c.list_sectors_in-sectors.result = omega (arith, c.loop-full.auto.full-end, c.loop-full-test.false) in
    subst (EndsAt old c.list_sectors_in-sectors.result) (sym c.clear.ensures.items) (subst (λ m. EndsAt old m []) end (at_end g (goal.at.returns-clause-ends g c).After-clear honest))

pub returns-clause-counted : goal.returns-clause-counted
returns-clause-counted g c = λ honest.
    counted_here (g.D.SectorDevice.disk c.args.device.now).sectors c.loop-full.full c.loop-full.input_count (c.loop-full.invariant.each_full honest) (c.loop-full.invariant.counted honest) [] c.loop-full.input_count
    (at_end g (goal.at.returns-clause-counted g c).After-clear honest) (omega arith) (omega arith)

pub returns-in_err-read-clause-called : goal.returns-in_err-read-clause-called
returns-in_err-read-clause-called g c = failed_then c.loop-full.invariant.called c.in_err-read.ensures.called c.from_residual.ensures.0

pub returns-in_err-read-clause-looked : goal.returns-in_err-read-clause-looked
returns-in_err-read-clause-looked g c = looks_then c.loop-full.invariant.looked (λ h. looked_read (c.read.ensures.read h))

pub returns-then-len-lt-ENTRIES_PER_SECTOR-clause-called : goal.returns-then-len-lt-ENTRIES_PER_SECTOR-clause-called
returns-then-len-lt-ENTRIES_PER_SECTOR-clause-called g c = all_called (one_more c.loop-full.invariant.called c.in_ok-read.ensures.called)

pub returns-then-len-lt-ENTRIES_PER_SECTOR-clause-looked : goal.returns-then-len-lt-ENTRIES_PER_SECTOR-clause-looked
returns-then-len-lt-ENTRIES_PER_SECTOR-clause-looked g c = looks_then c.loop-full.invariant.looked (λ h. looked_read (c.read.ensures.read h))

pub returns-clause-called : goal.returns-clause-called
returns-clause-called g c = all_called c.loop-full.invariant.called
