use Rattle.std.proofs.Common.{ℕ, ◌++◌, subst}
use Rattle.std.specs.Prelude.{codes}
use Rattle.exact_text.specs.Written.{AppendsProperPrefix}
use Rattle.exact_text.proofs.Writes.{prefix_of_longer, whole_then_prefix}
use Rattle.machine_lines.proofs.Calls.{on_err}
use Rattle.machine_lines.specs.Texts.{count_line}
use Rattle.debugging.specs.Profile.{cycles_lines}
use Rattle.debugging.proofs.cycles.write_rom.Goals as goal

pub returns-clause-err : goal.returns-clause-err
returns-clause-err g c =
    on_err c.write_lines.result (λ failed.
    subst (λ (n : ℕ). AppendsProperPrefix (g.W.Output.contents c.args.out.now) (g.W.Output.contents c.write_lines.new.out) (count_line (codes "profile") n ++ cycles_lines 0 c.args.rom.now)) c.lines_of.ensures
    (whole_then_prefix (g.W.Output.contents c.args.out.now) (g.W.Output.contents c.write_count.new.out) (g.W.Output.contents c.write_lines.new.out)
    (count_line (codes "profile") c.lines_of.result) (cycles_lines 0 c.args.rom.now) c.in_default.ensures.ok failed))
    c.write_lines.ensures.err

pub returns-in-Err-clause-err : goal.returns-in-Err-clause-err
returns-in-Err-clause-err g c =
    subst (λ (n : ℕ). AppendsProperPrefix (g.W.Output.contents c.args.out.now) (g.W.Output.contents c.write_count.new.out) (count_line (codes "profile") n ++ cycles_lines 0 c.args.rom.now))
    c.lines_of.ensures (prefix_of_longer _ _ (count_line (codes "profile") c.lines_of.result) (cycles_lines 0 c.args.rom.now) c.in-Err.ensures.err)
