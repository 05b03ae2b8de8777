use Rattle.std.proofs.Common.{rules, ◌≡◌, [], length, drop, true, false, sym, ap, ◌∙◌, subst, arith, length-drop}
use Rattle.std.specs.List.{list_all}
use Rattle.input_entries.specs.Inputs.{is_entry}
use Rattle.recording.specs.Format.{entries_from}
use Rattle.recording.specs.Keeping.{AreGood}
use Rattle.recording.proofs.ListBytes.{length-entries_from, found, good_of, codes_from, all_means}
use Rattle.recording.proofs.parse.read_entries.Goals.{After-are_entries}
use Rattle.recording.proofs.parse.read_entries.Goals as goal

are : (c : After-are_entries) → list_all is_entry (entries_from c.entry_count-count.result (drop 10 c.args.sector.now)) ≡ c.are_entries.result
are c = ap (list_all is_entry) (sym (c.deref.ensures.value ∙ c.read_all.ensures.items)) ∙ sym c.are_entries.ensures

pub returns-then-are_entries-clause-items : goal.returns-then-are_entries-clause-items
returns-then-are_entries-clause-items c =
    c.read_all.ensures.items ∙ found c.args.number c.entry_count-count.result c.args.sector.now true c.entry_count-count.ensures.count (are (goal.at.returns-then-are_entries-clause-items c).After-are_entries ∙ c.if-are_entries.true)

pub returns-clause-items : goal.returns-clause-items
returns-clause-items c =
    c.clear.ensures.items ∙ found c.args.number c.entry_count-count.result c.args.sector.now false c.entry_count-count.ensures.count (are (goal.at.returns-clause-items c).After-are_entries ∙ c.if-are_entries.false)

pub returns-then-are_entries-clause-few : goal.returns-then-are_entries-clause-few
returns-then-are_entries-clause-few c =
    omega (arith, ap length c.read_all.ensures.items, length-entries_from c.entry_count-count.result (drop 10 c.args.sector.now), c.entry_count-count.ensures.few)

pub returns-then-are_entries-clause-good : goal.returns-then-are_entries-clause-good
returns-then-are_entries-clause-good c =
    let sector = c.args.sector.now in
    let n = c.entry_count-count.result in
    let size : length sector ≡ 512 = search rules in
    subst AreGood (sym c.read_all.ensures.items)
    (good_of (entries_from n (drop 10 sector)) (codes_from n (drop 10 sector) (omega (arith, length-drop 10 sector, size, c.entry_count-count.ensures.few)))
    (all_means (entries_from n (drop 10 sector)) (are (goal.at.returns-then-are_entries-clause-good c).After-are_entries ∙ c.if-are_entries.true)))

pub returns-clause-good : goal.returns-clause-good
returns-clause-good c = subst AreGood (sym c.clear.ensures.items) (good_of [] tt tt)
