use Rattle.std.proofs.Common.{◌≡◌, ◌+◌, ◌-◌, ap, subst, sym, List, ℕ}
use Rattle.std.specs.Io.KnownBytes.{Appends}
use Rattle.exact_text.specs.Written.{AppendsProperPrefix}
use Rattle.memory_map.specs.BusRules.{bus_rules}
use Rattle.sm83_processor.specs.Steps.{step_of}
use Rattle.sm83_processor.specs.declared.step.Stepped.{Stepped}
use Rattle.debugger.specs.Report.{line_of, step_lines}
use Rattle.debugger.proofs.Lines.{IsWrittenBut, one_more_written, part_failed, all_written, none_stepped, next_step, no_step_left}
use Rattle.debugging.specs.Run.{RunState, processor_of}
use Rattle.debugging.proofs.Runs.{and_one}
use Rattle.debugging.proofs.answering.write_steps.Goals as goal

pub loop-i-init : goal.loop-i-init
loop-i-init g c = record { run = c.no_step.ensures; written = none_stepped bus_rules _ _ _ }

pub returns-in-Err-clause-err : goal.returns-in-Err-clause-err
returns-in-Err-clause-err g c =
    let text : line_of c.step-step.result.stepped.kind ≡ line_of (step_of bus_rules (processor_of c.loop-i.run)).stepped.kind = ap (λ (s : Stepped). line_of s.kind) c.step-step.ensures.stepped in
    part_failed _ _ _ _ _ _ _ (next_step bus_rules _ _ _ c.loop-i-test.true) c.loop-i.invariant.written
    (subst (λ (t : List ℕ). AppendsProperPrefix (g.W.Output.contents c.loop-i.out) (g.W.Output.contents c.write_stepped.new.out) t) text c.in-Err.ensures.err)

pub loop-i-preserved : goal.loop-i-preserved
loop-i-preserved g c =
    let text : line_of c.step-step.result.stepped.kind ≡ line_of (step_of bus_rules (processor_of c.loop-i.run)).stepped.kind = ap (λ (s : Stepped). line_of s.kind) c.step-step.ensures.stepped in
    record {
      run = and_one c.loop-i._i c.args.run c.loop-i.run c.step-step.result.run c.loop-i.invariant.run c.step-step.ensures.run;
      written = subst (λ (r : RunState). IsWrittenBut (step_lines bus_rules (c.args.count - (c.loop-i._i + 1)) (processor_of r)) (step_lines bus_rules c.args.count (processor_of c.args.run)) (g.W.Output.contents c.args.out.now) (g.W.Output.contents c.write_stepped.new.out))
          (sym c.step-step.ensures.run)
          (one_more_written _ _ _ _ _ _ _ (next_step bus_rules _ _ _ c.loop-i-test.true) c.loop-i.invariant.written
          (subst (λ (t : List ℕ). Appends (g.W.Output.contents c.loop-i.out) (g.W.Output.contents c.write_stepped.new.out) t) text c.in_default.ensures.ok));
    }

pub returns-clause-ok : goal.returns-clause-ok
returns-clause-ok g c = all_written _ _ _ _ (no_step_left bus_rules _ _ _ c.loop-i-test.false) c.loop-i.invariant.written
