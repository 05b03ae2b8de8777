use Rattle.std.proofs.Common.{[], ◌∷◌, Bool, true, false, ap, subst, sym, ◌∙◌, arith}
use Rattle.timer_unit.specs.declared.serial.SerialState.{SerialState}
use Rattle.sm83_processor.specs.declared.step.Stepped.{Stepped}
use Rattle.machine.specs.Watched.{byte_list, is_breakpoint, seen_from}
use Rattle.machine.specs.Watching.{in_frame, IsFar}
use Rattle.machine.proofs.Watching.{seen_by_step, seen_on}
use Rattle.machine.proofs.watched.WatchedFrame.run_on.Goals as goal

pub returns-then-is_broken-clause-seen : goal.returns-then-is_broken-clause-seen
returns-then-is_broken-clause-seen c =
    let fast = c.run_unseen-then in
    sym c.loop-passed.invariant.run ∙ fast.ensures.run
    ∙ ap (λ (b : Bool). seen_from b (in_frame fast.result.0 fast.new.processor)) c.if-is_broken.true

pub step_far-now-requires-clause-far : goal.step_far-now-requires-clause-far
step_far-now-requires-clause-far c = subst (λ (s : SerialState). IsFar s.cycles_left) c.serial.ensures (c.is_far.ensures c.if-is_far.true)

pub returns-then-breaks-clause-seen : goal.returns-then-breaks-clause-seen
returns-then-breaks-clause-seen c =
    let step = c.step_far-now in
    let fast = c.run_unseen-then in
    sym c.loop-passed.invariant.run ∙ fast.ensures.run ∙ ap (λ (b : Bool). seen_from b (in_frame fast.result.0 fast.new.processor)) c.if-is_broken.false
    ∙ step.ensures.run
    ∙ ap (λ (b : Bool). seen_from b (in_frame step.result.0 step.new.processor)) c.if-breaks.true

pub loop-passed-preserved-else-breaks : goal.loop-passed-preserved-else-breaks
loop-passed-preserved-else-breaks c =
    let fast = c.run_unseen-then in
    let step = c.step_far-now in record {
      run = sym (step.ensures.run ∙ ap (λ (b : Bool). seen_from b (in_frame step.result.0 step.new.processor)) c.if-breaks.false)
          ∙ seen_on fast.result.1 (in_frame c.loop-passed.passed c.loop-passed.processor) (in_frame fast.result.0 fast.new.processor) c.args.self fast.ensures.run c.if-is_broken.false c.loop-passed.invariant.run;
      start = omega (arith, c.loop-passed.invariant.start, fast.ensures.start, step.ensures.more);
      few = step.ensures.few;
    }

pub returns-in-Some-clause-seen : goal.returns-in-Some-clause-seen
returns-in-Some-clause-seen c =
    let fast = c.run_unseen-then in
    let step = c.step_by_parts-step in
    let took = c.from-passed.ensures ∙ ap (λ (s : Stepped). s.cycles) step.ensures.stepped in
    let broke = c.is_breakpoint-breaks.ensures ∙ ap (λ (s : Stepped). is_breakpoint s.kind) step.ensures.stepped in
    sym c.loop-passed.invariant.run ∙ fast.ensures.run ∙ ap (λ (b : Bool). seen_from b (in_frame fast.result.0 fast.new.processor)) c.if-is_broken.false
    ∙ seen_by_step fast.result.0 c.from-passed.result (c.in-Some.byte ∷ []) c.is_breakpoint-breaks.result fast.new.processor step.result.processor
    (omega arith) step.ensures.after took (sym (ap byte_list c.in-Some.is) ∙ step.ensures.sent) broke

pub returns-then-breaks-2-clause-seen : goal.returns-then-breaks-2-clause-seen
returns-then-breaks-2-clause-seen c =
    let fast = c.run_unseen-then in
    let step = c.step_by_parts-step in
    let took = c.from-passed.ensures ∙ ap (λ (s : Stepped). s.cycles) step.ensures.stepped in
    let broke = c.is_breakpoint-breaks.ensures ∙ ap (λ (s : Stepped). is_breakpoint s.kind) step.ensures.stepped in
    sym c.loop-passed.invariant.run ∙ fast.ensures.run ∙ ap (λ (b : Bool). seen_from b (in_frame fast.result.0 fast.new.processor)) c.if-is_broken.false
    ∙ seen_by_step fast.result.0 c.from-passed.result [] true fast.new.processor step.result.processor
    (omega arith) step.ensures.after took (sym (ap byte_list c.in_default.is) ∙ step.ensures.sent) (sym c.if-breaks-2.true ∙ broke)

pub loop-passed-preserved : goal.loop-passed-preserved
loop-passed-preserved c =
    let fast = c.run_unseen-then in
    let step = c.step_by_parts-step in
    let took = c.from-passed.ensures ∙ ap (λ (s : Stepped). s.cycles) step.ensures.stepped in
    let broke = c.is_breakpoint-breaks.ensures ∙ ap (λ (s : Stepped). is_breakpoint s.kind) step.ensures.stepped in record {
      run =
          sym (seen_by_step fast.result.0 c.from-passed.result [] false fast.new.processor step.result.processor
          (omega arith) step.ensures.after took (sym (ap byte_list c.in_default.is) ∙ step.ensures.sent) (sym c.if-breaks-2.false ∙ broke))
          ∙ seen_on fast.result.1 (in_frame c.loop-passed.passed c.loop-passed.processor) (in_frame fast.result.0 fast.new.processor) c.args.self fast.ensures.run c.if-is_broken.false c.loop-passed.invariant.run;
      start = omega (arith, c.loop-passed.invariant.start, fast.ensures.start);
      few = omega (arith, step.ensures.few, c.from-passed.ensures);
    }
