use Rattle.std.proofs.Common.{sym, ◌∙◌}
use Rattle.input_entries.proofs.Meanings.{run_counts, seconds_count, none_counts}
use Rattle.input_entries.proofs.counts.inputs_of.Goals as goal

pub returns-then-is_run : goal.returns-then-is_run
returns-then-is_run c = c.run_length.ensures ∙ run_counts c.args.entry.now (sym c.is_run.ensures ∙ c.if-is_run.true)

pub returns-then-is_seconds : goal.returns-then-is_seconds
returns-then-is_seconds c = seconds_count c.args.entry.now (sym c.is_run.ensures ∙ c.if-is_run.false) (sym c.is_seconds.ensures ∙ c.if-is_seconds.true)

pub returns : goal.returns
returns c = none_counts c.args.entry.now (sym c.is_run.ensures ∙ c.if-is_run.false) (sym c.is_seconds.ensures ∙ c.if-is_seconds.false)
