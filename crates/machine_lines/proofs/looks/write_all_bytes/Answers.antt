use Rattle.std.proofs.Common.{◌≡◌, ◌≤◌, ◌∙◌, ℕ, List, length, subst, ap, arith}
use Rattle.std.proofs.lemmas.List.{length-take-le}
use Rattle.std.specs.Io.KnownBytes.{Appends}
use Rattle.exact_text.specs.Written.{AppendsProperPrefix}
use Rattle.debugger.proofs.Lines.{one_more_written, part_failed}
use Rattle.machine.specs.Looking.{bytes_from}
use Rattle.machine_lines.proofs.Blocks.{next_part}
use Rattle.machine_lines.proofs.looks.write_all_bytes.Goals as goal

pub returns-in-Err-clause-err : goal.returns-in-Err-clause-err
returns-in-Err-clause-err g c =
    let m = c.args.machine.now in
    let part : c.write_memory.new.bytes ≡ bytes_from m c.loop-left.place c.min-size.result =
    c.write_memory.ensures ∙ ap (bytes_from m c.loop-left.place) (length-take-le c.min-size.result c.loop-left.room (omega (arith, c.min-size.ensures, c.min-size.array_long))) in
    part_failed _ _ _ _ _ _ _ (next_part m c.loop-left.place c.loop-left.left c.min-size.result (omega (arith, c.min-size.ensures))) c.loop-left.invariant
    (subst (λ (t : List ℕ). AppendsProperPrefix (g.W.Output.contents c.loop-left.out) (g.W.Output.contents c.write_whole.new.out) t) part c.in-Err.ensures.err)

pub loop-left-preserved : goal.loop-left-preserved
loop-left-preserved g c =
    let m = c.args.machine.now in
    let part : c.write_memory.new.bytes ≡ bytes_from m c.loop-left.place c.min-size.result =
    c.write_memory.ensures ∙ ap (bytes_from m c.loop-left.place) (length-take-le c.min-size.result c.loop-left.room (omega (arith, c.min-size.ensures, c.min-size.array_long))) in
    one_more_written _ _ _ _ _ _ _ (next_part m c.loop-left.place c.loop-left.left c.min-size.result (omega (arith, c.min-size.ensures))) c.loop-left.invariant
    (subst (λ (t : List ℕ). Appends (g.W.Output.contents c.loop-left.out) (g.W.Output.contents c.write_whole.new.out) t) part c.in_default.ensures.ok)
