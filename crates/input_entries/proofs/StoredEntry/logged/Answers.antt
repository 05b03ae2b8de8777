use Rattle.std.proofs.Common.{rules, ◌≡◌, length, sym, ◌∙◌}
use Rattle.input_entries.proofs.Meanings.{run_logged, seconds_logged, none_logged}
use Rattle.input_entries.proofs.StoredEntry.logged.Goals as goal

pub returns-then-is_run-clause-some : goal.returns-then-is_run-clause-some
returns-then-is_run-clause-some c = run_logged c.args.self.now c.run_length.result (sym c.is_run.ensures ∙ c.if-is_run.true) c.run_length.ensures

pub returns-then-is_seconds-clause-some : goal.returns-then-is_seconds-clause-some
returns-then-is_seconds-clause-some c =
    let size : length c.args.self.now.code ≡ 6 = search rules in
    seconds_logged c.args.self.now c.seconds_of.result (sym c.is_run.ensures ∙ c.if-is_run.false) (sym c.is_seconds.ensures ∙ c.if-is_seconds.true) size c.seconds_of.ensures

pub returns-clause-none : goal.returns-clause-none
returns-clause-none c = λ _. none_logged c.args.self.now (sym c.is_run.ensures ∙ c.if-is_run.false) (sym c.is_seconds.ensures ∙ c.if-is_seconds.false)
