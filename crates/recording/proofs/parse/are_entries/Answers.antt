use Rattle.std.proofs.Common.{◌&&◌, ◌+◌, [], drop, Bool, sym, ap, ◌∙◌, arith}
use Rattle.std.specs.List.{list_all}
use Rattle.input_entries.specs.Inputs.{is_entry}
use Rattle.input_entries.proofs.Meanings.{not_entry, an_entry}
use Rattle.recording.proofs.ListBytes.{all_at}
use Rattle.recording.proofs.parse.are_entries.Goals as goal

pub returns-then-inputs_of-eq0 : goal.returns-then-inputs_of-eq0
returns-then-inputs_of-eq0 c =
    let i = c.loop-entry.entry-index in
    sym (c.loop-entry.invariant ∙ all_at c.args.entries.now i (record { code = [] }) c.loop-entry-test.true ∙ ap (λ (b : Bool). b && list_all is_entry (drop (i + 1) c.args.entries.now)) (not_entry _ (sym c.if-inputs_of-eq0.true ∙ c.inputs_of.ensures)))

pub loop-entry-preserved : goal.loop-entry-preserved
loop-entry-preserved c =
    let i = c.loop-entry.entry-index in
    c.loop-entry.invariant ∙ all_at c.args.entries.now i (record { code = [] }) c.loop-entry-test.true
    ∙ ap (λ (b : Bool). b && list_all is_entry (drop (i + 1) c.args.entries.now)) (an_entry _ c.inputs_of.result c.inputs_of.ensures (omega (arith, c.if-inputs_of-eq0.false)))
