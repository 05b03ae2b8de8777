use Rattle.std.proofs.Common.{List, ℕ, subst, arith}
use Rattle.debugger.proofs.Lines.{IsWrittenBut, all_written, one_more_written, part_failed}
use Rattle.debugging.specs.Profile.{cycles_lines}
use Rattle.debugging.proofs.Profiles.{next_line_counted, next_skipped, none_counted}
use Rattle.debugging.proofs.cycles.write_lines.Goals as goal

pub loop-offset-preserved-then-cycles-eq0 : goal.loop-offset-preserved-then-cycles-eq0
loop-offset-preserved-then-cycles-eq0 g c =
    subst (λ (left : List ℕ). IsWrittenBut left (cycles_lines 0 c.args.rom.now) (g.W.Output.contents c.args.out.now) (g.W.Output.contents c.loop-offset.out))
    (next_skipped c.args.rom.now c.loop-offset.offset c.loop-offset-test.true c.if-cycles-eq0.true) c.loop-offset.invariant

pub returns-in-Err-clause-err : goal.returns-in-Err-clause-err
returns-in-Err-clause-err g c =
    part_failed _ _ _ _ _ _ _ (next_line_counted c.args.rom.now c.loop-offset.offset c.loop-offset-test.true c.if-cycles-eq0.false) c.loop-offset.invariant c.in-Err.ensures.err

pub loop-offset-preserved : goal.loop-offset-preserved
loop-offset-preserved g c =
    one_more_written _ _ _ _ _ _ _ (next_line_counted c.args.rom.now c.loop-offset.offset c.loop-offset-test.true c.if-cycles-eq0.false) c.loop-offset.invariant c.in_default.ensures.ok

pub returns-clause-ok : goal.returns-clause-ok
returns-clause-ok g c = all_written _ _ _ _ (none_counted c.args.rom.now c.loop-offset.offset (omega (arith, c.loop-offset-test.false))) c.loop-offset.invariant
