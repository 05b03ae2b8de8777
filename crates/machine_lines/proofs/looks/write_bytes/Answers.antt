use Rattle.std.proofs.Common.{ℕ}
use Rattle.std.specs.Prelude.{codes}
use Rattle.exact_text.proofs.Writes.{whole_then_prefix}
use Rattle.machine_lines.proofs.Calls.{on_err}
use Rattle.machine.specs.Looking.{bytes_from}
use Rattle.machine_lines.specs.Texts.{count_line}
use Rattle.machine_lines.proofs.looks.write_bytes.Goals as goal

pub returns-clause-err : goal.returns-clause-err
returns-clause-err g c =
    on_err c.write_all_bytes.result
    (whole_then_prefix (g.W.Output.contents c.args.out.now) (g.W.Output.contents c.write_count.new.out) (g.W.Output.contents c.write_all_bytes.new.out) (count_line (codes "bytes") c.args.count)
    (bytes_from c.args.machine.now c.args.address c.args.count) c.in_default.ensures.ok)
    c.write_all_bytes.ensures.err
