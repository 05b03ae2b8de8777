use Rattle.std.proofs.Common.{rules, ◌≡◌, ◌<◌, ◌-◌, ◌++◌, ◌∷◌, [], length, Some, set, refl, sym, ap, ◌∙◌, subst, arith, length-append}
use Rattle.input_entries.specs.Inputs.{run_length}
use Rattle.input_entries.specs.Growing.{with_input, last_of}
use Rattle.input_entries.proofs.MoreInputs.{lengthens_means, no_last, last_goes, last_stays}
use Rattle.recording.specs.Keeping.{AreGood}
use Rattle.recording.proofs.ListBytes.{good_more}
use Rattle.recording.proofs.packing.add_input.Goals.{In_default, In-Some}
use Rattle.recording.proofs.packing.add_input.Goals as goal

none : (c : In_default) → c.args.entries.now.items ≡ []
none c = no_last c.args.entries.now.items (ap last_of (sym c.deref.ensures.value) ∙ sym c.last_of.ensures ∙ c.in_default.is)

last : (c : In-Some) → last_of c.args.entries.now.items ≡ Some c.in-Some.last
last c = ap last_of (sym c.deref.ensures.value) ∙ sym c.last_of.ensures ∙ c.in-Some.is

pub push_reserved-requires : goal.push_reserved-requires
push_reserved-requires c = omega (arith, ap length (none (goal.at.push_reserved-requires c).In_default), c.requires.room)

pub returns-in_default-clause-added : goal.returns-in_default-clause-added
returns-in_default-clause-added c = λ _.
    let none = none (goal.at.returns-in_default-clause-added c).In_default in
    c.push_reserved.ensures.items ∙ (λ i. none i ++ c.single.ensures.is i ∷ []) ∙ sym (ap (λ l. with_input l c.args.input.now) none)

pub returns-in_default-clause-short : goal.returns-in_default-clause-short
returns-in_default-clause-short c =
    omega (arith, ap length c.push_reserved.ensures.items, length-append c.args.entries.now.items (c.single.result ∷ []), ap length (none (goal.at.returns-in_default-clause-short c).In_default))

pub returns-in_default-clause-good : goal.returns-in_default-clause-good
returns-in_default-clause-good c = subst AreGood (sym (returns-in_default-clause-added c refl)) (good_more c.args.entries.now.items c.args.input.now c.requires.good c.single.ensures.five c.requires.input)

pub longer-requires : goal.longer-requires
longer-requires c =
    let short : run_length c.in-Some.last < 216000 = (lengthens_means c.in-Some.last c.args.input.now (sym c.lengthens.ensures.is ∙ c.if-lengthens.true)).1 in
    omega (arith, short)

pub returns-then-lengthens-clause-added : goal.returns-then-lengthens-clause-added
returns-then-lengthens-clause-added c = λ _.
    let list = c.args.entries.now.items in
    let count : c.len-end.result ≡ length list = search rules in
    (λ i. set list (count i - 1) (c.longer.ensures i)) ∙ last_goes list c.in-Some.last c.args.input.now (last (goal.at.returns-then-lengthens-clause-added c).In-Some) (sym c.lengthens.ensures.is ∙ c.if-lengthens.true)

pub returns-then-lengthens-clause-good : goal.returns-then-lengthens-clause-good
returns-then-lengthens-clause-good c = subst AreGood (sym (returns-then-lengthens-clause-added c refl)) (good_more c.args.entries.now.items c.args.input.now c.requires.good c.lengthens.ensures.five c.requires.input)

pub returns-then-len-eq-ENTRIES_PER_SECTOR-clause-not_added : goal.returns-then-len-eq-ENTRIES_PER_SECTOR-clause-not_added
returns-then-len-eq-ENTRIES_PER_SECTOR-clause-not_added c = λ _.
    let list = c.args.entries.now.items in
    let full : length list ≡ 83 = search rules in
    (refl, full, last_stays list c.in-Some.last c.args.input.now (last (goal.at.returns-then-len-eq-ENTRIES_PER_SECTOR-clause-not_added c).In-Some) (sym c.lengthens.ensures.is ∙ c.if-lengthens.false))

pub returns-clause-added : goal.returns-clause-added
returns-clause-added c = λ _.
    let list = c.args.entries.now.items in
    c.push_reserved-2.ensures.items ∙ ap (λ s. list ++ s ∷ []) c.single-2.ensures.is
    ∙ sym (last_stays list c.in-Some.last c.args.input.now (last (goal.at.returns-clause-added c).In-Some) (sym c.lengthens.ensures.is ∙ c.if-lengthens.false))

pub returns-clause-good : goal.returns-clause-good
returns-clause-good c = subst AreGood (sym (returns-clause-added c refl)) (good_more c.args.entries.now.items c.args.input.now c.requires.good c.lengthens.ensures.five c.requires.input)
