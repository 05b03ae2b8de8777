use Rattle.std.proofs.Common.{◌≡◌, ◌∙◌, ◌&&◌, inl, inr, true, false, sym}
use Rattle.std.proofs.lemmas.Bool.{cases_Bool}
use Rattle.log_format.specs.Appends.{fits}
use Rattle.sector_log.specs.Accessors.{entries_of}
use Rattle.session.specs.Inputs.{can_be_logged}
use Rattle.session.proofs.Saving.{listed_inputs, no_fit}
use Rattle.session.proofs.Writes.{inputs_listed}
use Rattle.session.proofs.save.fits_log.Goals as goal

pub returns-then-are_inputs : goal.returns-then-are_inputs
returns-then-are_inputs g c =
    let log = entries_of c.args.store.now in
    let entries = c.args.entries.now in
    let can : can_be_logged entries ≡ true = listed_inputs entries (c.are_inputs.ensures.0 c.if-are_inputs.true) in
    c.fits.ensures ∙ (λ i. sym can i && fits log entries)

pub returns : goal.returns
returns g c =
    let entries = c.args.entries.now in
    elim (cases_Bool (can_be_logged entries)) [
      | inl can ↦ let is : true ≡ false = sym (c.are_inputs.ensures.1 (inputs_listed entries can)) ∙ c.if-are_inputs.false in absurd (cc)
      | inr other ↦ sym (no_fit (entries_of c.args.store.now) entries other)
    ]
