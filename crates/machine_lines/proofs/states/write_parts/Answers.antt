use Rattle.std.proofs.Common.{ℕ, ◌++◌, length, length-append, subst, sym}
use Rattle.std.specs.Prelude.{codes}
use Rattle.std.specs.Io.KnownBytes.{Appends}
use Rattle.exact_text.proofs.Writes.{whole_then_prefix}
use Rattle.machine_lines.proofs.Calls.{on_err}
use Rattle.machine_lines.specs.Texts.{count_line}
use Rattle.machine_lines.proofs.states.write_parts.Goals as goal

pub returns-clause-err : goal.returns-clause-err
returns-clause-err g c =
    let bytes = c.args.header.now ++ c.args.snapshot.now in
    let before = g.W.Output.contents c.args.out.now in
    let between = g.W.Output.contents c.write_count.new.out in
    let counted = subst (λ (n : ℕ). Appends before between (count_line (codes "state") n)) (sym (length-append c.args.header.now c.args.snapshot.now)) c.in_default.ensures.ok in
    on_err c.write_both.result (whole_then_prefix before between (g.W.Output.contents c.write_both.new.out) (count_line (codes "state") (length bytes)) bytes counted) c.write_both.ensures.err
