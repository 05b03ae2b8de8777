use Rattle.std.proofs.Common.{◌∙◌, ◌+◌, ℕ, List, ap, subst, sym, arith}
use Rattle.std.proofs.lemmas.Bool.{not-false}
use Rattle.std.specs.Prelude.{take}
use Rattle.sm83_processor.specs.declared.step.Executed.{Executed}
use Rattle.sm83_processor.specs.declared.step.Stepped.{Stepped}
use Rattle.machine.specs.FastRuns.{HasPassed}
use Rattle.machine.proofs.FastRuns.{fast_runs, one_passed, passed_in_all}
use Rattle.machine.proofs.passing.run_watching_by.Goals as goal
use Rattle.machine.proofs.passing.run_watching_by.Goals.{in-Ran, in_default}

pub returns-then-not-is_there-clause-run : goal.returns-then-not-is_there-clause-run
returns-then-not-is_there-clause-run g c =
    let step = c.step-stepped in
    let what = ap (λ (s : Stepped). s.kind) step.ensures.stepped in
    λ begun before so_far. elim c.match-stepped.branch [
      | in-Ran w ↦ subst (λ (xs : List Executed). HasPassed (g.W.Watch.passes c.args.watch.now) (c.args.made + 1) (before + c.from.result) begun step.new.self (take (c.args.made + 1) xs)) (sym w.kept-is)
          (one_passed (g.W.Watch.passes c.args.watch.now) c.args.made before _ begun c.args.processor.now step.new.self c.args.kept.now w.in-Ran.seen so_far (omega (arith, c.requires.due, c.requires.room))
          (sym what ∙ w.in-Ran.is) step.ensures.after (ap (λ (n : ℕ). before + n) c.from.ensures ∙ ap (λ (s : Stepped). before + s.cycles) step.ensures.stepped))
      | in_default w ↦ absurd (fast_runs c.args.processor.now c.requires.fast (λ seen is. w.in_default.not-Ran seen (what ∙ is)))
    ]

pub returns-then-not-went-clause-run : goal.returns-then-not-went-clause-run
returns-then-not-went-clause-run g c =
    let went = c.run_calm_watching-went in λ begun before so_far.
    passed_in_all (g.W.Watch.passes c.args.watch.now) _ before c.loop-made.cycles went.result.cycles begun _ _
    (went.ensures.run begun (before + c.loop-made.cycles) (c.loop-made.invariant.run begun before so_far))

pub returns-then-made-most-clause-run : goal.returns-then-made-most-clause-run
returns-then-made-most-clause-run g c =
    let went = c.run_calm_watching-went in λ begun before so_far.
    passed_in_all (g.W.Watch.passes c.args.watch.now) _ before c.loop-made.cycles went.result.cycles begun _ _
    (went.ensures.run begun (before + c.loop-made.cycles) (c.loop-made.invariant.run begun before so_far))

pub returns-then-not-is_there-2-clause-run : goal.returns-then-not-is_there-2-clause-run
returns-then-not-is_there-2-clause-run g c =
    let went = c.run_calm_watching-went in λ begun before so_far.
    passed_in_all (g.W.Watch.passes c.args.watch.now) _ before c.loop-made.cycles went.result.cycles begun _ _
    (went.ensures.run begun (before + c.loop-made.cycles) (c.loop-made.invariant.run begun before so_far))

pub returns-then-may_end-clause-run : goal.returns-then-may_end-clause-run
returns-then-may_end-clause-run g c =
    let went = c.run_calm_watching-went in λ begun before so_far.
    passed_in_all (g.W.Watch.passes c.args.watch.now) _ before c.loop-made.cycles went.result.cycles begun _ _
    (went.ensures.run begun (before + c.loop-made.cycles) (c.loop-made.invariant.run begun before so_far))

pub loop-made-preserved : goal.loop-made-preserved
loop-made-preserved g c =
    let known = c.loop-made.invariant in
    let went = c.run_calm_watching-went in record {
      run = λ begun before so_far. record {
        passed = passed_in_all (g.W.Watch.passes c.args.watch.now) _ before c.loop-made.cycles went.result.cycles begun _ _
            (went.ensures.run begun (before + c.loop-made.cycles) (known.run begun before so_far));
        here = λ some. c.may_end.ensures c.if-may_end.false;
      };
      room = went.ensures.room ∙ known.room;
      start = omega (arith, went.ensures.more, known.start);
      due = c.if-made-most.false;
      few = omega (arith, went.ensures.few, known.few);
      fast = went.ensures.fast (not-false went.result.is_fast c.if-not-went.false);
    }
