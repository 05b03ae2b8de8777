use Rattle.std.proofs.Common.{◌≡◌, ◌∙◌, ℕ, List, ap, subst}
use Rattle.std.specs.Prelude.{codes}
use Rattle.std.specs.Io.KnownBytes.{Appends}
use Rattle.exact_text.specs.Written.{AppendsProperPrefix}
use Rattle.exact_text.proofs.Writes.{whole_then_prefix}
use Rattle.machine.specs.Machine.{picture_rows}
use Rattle.machine_lines.proofs.Calls.{on_err}
use Rattle.machine.specs.Looking.{shades_of}
use Rattle.machine_lines.specs.Texts.{count_line}
use Rattle.machine_lines.proofs.looks.write_all_shades.Goals as goal

pub returns-clause-err : goal.returns-clause-err
returns-clause-err g c =
    let before = g.W.Output.contents c.args.out.now in
    let between = g.W.Output.contents c.write_count.new.out in
    let after = g.W.Output.contents c.write_whole.new.out in
    let text : c.write_shades.new.out ≡ shades_of (picture_rows c.args.machine.now) = c.write_shades.ensures ∙ ap (λ picture. shades_of picture.rows) c.picture.ensures in
    on_err c.write_whole.result
    (λ failed. whole_then_prefix before between after (count_line (codes "shades") 23040) (shades_of (picture_rows c.args.machine.now)) c.in_default.ensures.ok
    (subst (λ (t : List ℕ). AppendsProperPrefix between after t) text failed))
    c.write_whole.ensures.err
