use Rattle.std.proofs.Common.{◌≡◌, ◌∙◌, subst, List, ℕ}
use Rattle.std.specs.Io.KnownBytes.{Appends}
use Rattle.exact_text.specs.Written.{AppendsProperPrefix}
use Rattle.debugger.specs.Listing.{line_at}
use Rattle.debugger.proofs.Lines.{one_more_written, part_failed, all_written, none_listed, next_line, no_line_left}
use Rattle.debugger.proofs.listing.write_lines.Goals as goal

pub loop-i-init : goal.loop-i-init
loop-i-init g c = none_listed _ _ _ _

pub returns-in-Err-clause-err : goal.returns-in-Err-clause-err
returns-in-Err-clause-err g c =
    let text : c.as_bytes.result.now ≡ line_at c.args.machine.now c.loop-i.address = c.as_bytes.ensures.value ∙ c.deref.ensures.0 ∙ c.line-text.ensures in
    part_failed _ _ _ _ _ _ _ (next_line _ _ _ _ c.loop-i-test.true) c.loop-i.invariant
    (subst (λ (t : List ℕ). AppendsProperPrefix (g.W.Output.contents c.loop-i.out) (g.W.Output.contents c.write_whole.new.out) t) text c.in-Err.ensures.err)

pub loop-i-preserved : goal.loop-i-preserved
loop-i-preserved g c =
    let text : c.as_bytes.result.now ≡ line_at c.args.machine.now c.loop-i.address = c.as_bytes.ensures.value ∙ c.deref.ensures.0 ∙ c.line-text.ensures in
    rw c.address_after-address.ensures
    (one_more_written _ _ _ _ _ _ _ (next_line _ _ _ _ c.loop-i-test.true) c.loop-i.invariant
    (subst (λ (t : List ℕ). Appends (g.W.Output.contents c.loop-i.out) (g.W.Output.contents c.write_whole.new.out) t) text c.in_default.ensures.ok))

pub returns-clause-ok : goal.returns-clause-ok
returns-clause-ok g c = all_written _ _ _ _ (no_line_left _ _ _ _ c.loop-i-test.false) c.loop-i.invariant
