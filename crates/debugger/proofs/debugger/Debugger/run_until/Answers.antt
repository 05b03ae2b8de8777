use Rattle.std.proofs.Common.{◌∙◌, ◌<◌, ℕ, List, ap, subst, sym, arith}
use Rattle.std.specs.List.{Contains}
use Rattle.memory_map.specs.BusRules.{bus_rules}
use Rattle.sm83_processor.specs.Steps.{after_steps}
use Rattle.debugger.specs.History.{DebuggerState}
use Rattle.debugger.specs.Run.{HasPassed, IsElsewhere}
use Rattle.debugger.proofs.Histories.{not_begun, one_more, past_more, pass_on}
use Rattle.debugger.proofs.debugger.Debugger.run_until.Goals as goal
use Rattle.debugger.proofs.debugger.Debugger.run_until.Goals.{else-made-gt0-via-then-made-gt0+else-has, else-made-gt0-via-else-made-gt0}

pub loop-made-init : goal.loop-made-init
loop-made-init c = record {
  run = record { run = rw (← c.self.view_is) (not_begun _ c.self.invariant); past = λ k some below met. omega arith };
  most = omega arith;
}

pub loop-made-preserved-then-is_fast : goal.loop-made-preserved-then-is_fast
loop-made-preserved-then-is_fast c =
    let pc = ap (λ r. r.pc) c.registers-pc.ensures ∙ ap (λ (d : DebuggerState). d.machine.processor.registers.pc) c.self-in-loop-made.view_is in
    let old = c.loop-made.self in
    record {
      run = pass_on (IsElsewhere c.args.breaks.now) _ _ _ _ _ c.loop-made.invariant.run
          (elim c.else-made-gt0.branch [
            | else-made-gt0-via-then-made-gt0+else-has w ↦ λ some met.
                let here = w.has.ensures.1 (subst (λ (x : ℕ). Contains c.of-watch.result x) (sym pc) (subst (λ (breaks : List ℕ). Contains breaks old.machine.processor.registers.pc) (sym c.of-watch.ensures) met)) in cc
            | else-made-gt0-via-else-made-gt0 w ↦ λ some met. omega arith
          ])
          (subst (λ (breaks : List ℕ). HasPassed (IsElsewhere breaks) c.run_watching-made.result.steps old c.run_watching-made.new.self) c.of-watch.ensures c.run_watching-made.ensures.run);
      most = omega (arith, c.run_watching-made.ensures.most, c.loop-made-test.true);
    }

pub loop-made-preserved : goal.loop-made-preserved
loop-made-preserved c =
    let pc = ap (λ r. r.pc) c.registers-pc.ensures ∙ ap (λ (d : DebuggerState). d.machine.processor.registers.pc) (c.self-in-loop-made.view_is ∙ c.loop-made.invariant.run.run) in
    record {
      run = record {
        run = one_more _ _ _ _ c.loop-made.invariant.run.run c.step.ensures.debugger;
        past = past_more _ _ c.loop-made.invariant.run.past
            (elim c.else-made-gt0.branch [
              | else-made-gt0-via-then-made-gt0+else-has w ↦ λ some met.
                  let here = w.has.ensures.1 (subst (λ (x : ℕ). Contains c.of-watch.result x) (sym pc) (subst (λ (breaks : List ℕ). Contains breaks (after_steps bus_rules c.loop-made.made c.args.self.now.machine.processor).registers.pc) (sym c.of-watch.ensures) met)) in cc
              | else-made-gt0-via-else-made-gt0 w ↦ λ some met. omega arith
            ]);
      };
      most = omega (arith, c.loop-made-test.true);
    }
