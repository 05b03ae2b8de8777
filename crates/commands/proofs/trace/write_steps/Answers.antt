use Rattle.std.proofs.Common.{◌≡◌, ap, subst, List, ℕ}
use Rattle.std.specs.Io.KnownBytes.{Appends}
use Rattle.exact_text.specs.Written.{AppendsProperPrefix}
use Rattle.memory_map.specs.BusRules.{bus_rules}
use Rattle.sm83_processor.specs.Steps.{step_of}
use Rattle.sm83_processor.specs.declared.step.Stepped.{Stepped}
use Rattle.debugger.specs.Report.{line_of}
use Rattle.debugger.proofs.Lines.{one_more_written, part_failed, all_written, none_stepped, next_step, no_step_left}
use Rattle.commands.proofs.trace.write_steps.Goals as goal

pub loop-i-init : goal.loop-i-init
loop-i-init g c = none_stepped bus_rules _ _ _

pub returns-in-Err-clause-err : goal.returns-in-Err-clause-err
returns-in-Err-clause-err g c =
    let text : line_of c.step-stepped.result.kind ≡ line_of (step_of bus_rules c.loop-i.debugger.machine.processor).stepped.kind = ap (λ (s : Stepped). line_of s.kind) c.step-stepped.ensures.stepped in
    part_failed _ _ _ _ _ _ _ (next_step bus_rules _ _ _ c.loop-i-test.true) c.loop-i.invariant
    (subst (λ (t : List ℕ). AppendsProperPrefix (g.W.Output.contents c.loop-i.out) (g.W.Output.contents c.write_stepped.new.out) t) text c.in-Err.ensures.err)

pub loop-i-preserved : goal.loop-i-preserved
loop-i-preserved g c =
    let text : line_of c.step-stepped.result.kind ≡ line_of (step_of bus_rules c.loop-i.debugger.machine.processor).stepped.kind = ap (λ (s : Stepped). line_of s.kind) c.step-stepped.ensures.stepped in
    rw c.step-stepped.ensures.debugger
    (one_more_written _ _ _ _ _ _ _ (next_step bus_rules _ _ _ c.loop-i-test.true) c.loop-i.invariant
    (subst (λ (t : List ℕ). Appends (g.W.Output.contents c.loop-i.out) (g.W.Output.contents c.write_stepped.new.out) t) text c.in_default.ensures.ok))

pub returns-clause-ok : goal.returns-clause-ok
returns-clause-ok g c = all_written _ _ _ _ (no_step_left bus_rules _ _ _ c.loop-i-test.false) c.loop-i.invariant
