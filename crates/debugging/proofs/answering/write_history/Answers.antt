use Rattle.std.proofs.Common.{◌≡◌, ◌∙◌, ap, length, subst, sym}
use Rattle.exact_text.specs.Written.{AppendsProperPrefix}
use Rattle.exact_text.proofs.Writes.{prefix_of_longer, whole_then_prefix}
use Rattle.debugger.specs.History.{DebuggerState}
use Rattle.debugging.specs.Answers.{history_text}
use Rattle.debugging.proofs.Parts.{last_of}
use Rattle.machine_lines.proofs.Calls.{on_err}
use Rattle.debugging.proofs.answering.write_history.Goals as goal

pub returns-clause-err : goal.returns-clause-err
returns-clause-err g c =
    let size : c.history_len-length.result ≡ length c.debugger-2.result.now.history =
    c.history_len-length.ensures.len ∙ ap (λ (d : DebuggerState). length d.history) (c.debugger.ensures ∙ sym c.debugger-2.ensures) in
    let text = last_of c.args.most c.debugger-2.result.now.history c.history_len-length.result c.saturating_sub-first.result size c.saturating_sub-first.ensures
    ∙ ap (λ (d : DebuggerState). history_text c.args.most d.history) c.debugger-2.ensures in
    on_err c.write_seen.result (λ failed.
    subst (AppendsProperPrefix (g.W.Output.contents c.args.out.now) (g.W.Output.contents c.write_seen.new.out)) text
    (whole_then_prefix _ _ _ _ _ c.in_default.ensures.ok failed))
    c.write_seen.ensures.err

pub returns-in-Err-clause-err : goal.returns-in-Err-clause-err
returns-in-Err-clause-err g c =
    let text = last_of c.args.most c.debugger.result.now.history c.history_len-length.result c.saturating_sub-first.result c.history_len-length.ensures.len c.saturating_sub-first.ensures
    ∙ ap (λ (d : DebuggerState). history_text c.args.most d.history) c.debugger.ensures in
    subst (AppendsProperPrefix (g.W.Output.contents c.args.out.now) (g.W.Output.contents c.write_count.new.out)) text (prefix_of_longer _ _ _ _ c.in-Err.ensures.err)
