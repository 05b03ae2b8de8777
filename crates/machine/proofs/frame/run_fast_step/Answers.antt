use Rattle.std.proofs.Common.{◌≡◌, ◌<◌, ◌+◌, ◌-◌, ◌%◌, refl, sym, subst, ◌∙◌, arith}
use Rattle.std.specs.Fn.{iterate}
use Rattle.memory_map.specs.BusRules.{bus_rules}
use Rattle.memory_map.specs.Bus.{pending_interrupts}
use Rattle.memory_map.specs.Ticks.{tick}
use Rattle.memory_map.specs.Quiet.{IsCalm}
use Rattle.memory_map.proofs.QuietCycles.{fewer_are_quiet, calm_after}
use Rattle.sm83_processor.proofs.FastSteps.{fast_after, fast_cycles}
use Rattle.sm83_processor.proofs.StepCycles.{step-bounds}
use Rattle.machine.specs.Watching.{IsSilent}
use Rattle.machine.proofs.FastFrames.{uninterrupted}
use Rattle.machine.proofs.Sent.{stays_silent}
use Rattle.machine.proofs.frame.run_fast_step.Goals as goal

pub returns-then-not-usual-clause-after : goal.returns-then-not-usual-clause-after
returns-then-not-usual-clause-after g c =
    let p = c.args.processor.now in
    let run = c.run_opcode-cycles in
    let q = run.new.self in
    c.pass_out_of_line.ensures ∙ fast_after bus_rules c.args.opcode run.result.0 p q (iterate tick run.result.0 q.memory) c.requires.fast c.requires.here run.ensures.after run.ensures.cycles refl

pub returns-then-not-usual-clause-now : goal.returns-then-not-usual-clause-now
returns-then-not-usual-clause-now g c =
    let run = c.run_opcode-cycles in
    let took = fast_cycles bus_rules c.args.opcode run.result.0 c.args.processor.now c.requires.fast c.requires.here run.ensures.cycles in
    λ _. omega (arith, c.passed_after.ensures, took)

pub returns-then-is_last-clause-after : goal.returns-then-is_last-clause-after
returns-then-is_last-clause-after g c =
    let p = c.args.processor.now in
    let run = c.run_opcode-cycles in
    let q = run.new.self in
    c.pass_out_of_line-then-is_last.ensures ∙ fast_after bus_rules c.args.opcode run.result.0 p q (iterate tick run.result.0 q.memory) c.requires.fast c.requires.here run.ensures.after run.ensures.cycles refl

pub returns-then-is_last-clause-now : goal.returns-then-is_last-clause-now
returns-then-is_last-clause-now g c =
    let run = c.run_opcode-cycles in
    let took = fast_cycles bus_rules c.args.opcode run.result.0 c.args.processor.now c.requires.fast c.requires.here run.ensures.cycles in
    λ _. omega (arith, c.passed_after-then-is_last.ensures, took)

pub returns-then-not-is_calm-clause-after : goal.returns-then-not-is_calm-clause-after
returns-then-not-is_calm-clause-after g c =
    let p = c.args.processor.now in
    let run = c.run_opcode-cycles in
    let q = run.new.self in
    c.pass_usual-is_fast.ensures.after ∙ fast_after bus_rules c.args.opcode run.result.0 p q (iterate tick run.result.0 q.memory) c.requires.fast c.requires.here run.ensures.after run.ensures.cycles refl

pub returns-then-not-is_calm-clause-now : goal.returns-then-not-is_calm-clause-now
returns-then-not-is_calm-clause-now g c =
    let run = c.run_opcode-cycles in
    let took = fast_cycles bus_rules c.args.opcode run.result.0 c.args.processor.now c.requires.fast c.requires.here run.ensures.cycles in
    λ _. omega (arith, c.passed_after-then-not-is_calm.ensures, took)

pub returns-then-cycles-left-clause-after : goal.returns-then-cycles-left-clause-after
returns-then-cycles-left-clause-after g c =
    let p = c.args.processor.now in
    let run = c.run_opcode-cycles in
    let q = run.new.self in
    c.pass_usual-is_fast-then-cycles-left.ensures.after ∙ fast_after bus_rules c.args.opcode run.result.0 p q (iterate tick run.result.0 q.memory) c.requires.fast c.requires.here run.ensures.after run.ensures.cycles refl

pub returns-then-cycles-left-clause-now : goal.returns-then-cycles-left-clause-now
returns-then-cycles-left-clause-now g c =
    let run = c.run_opcode-cycles in
    let took = fast_cycles bus_rules c.args.opcode run.result.0 c.args.processor.now c.requires.fast c.requires.here run.ensures.cycles in
    let bounds = step-bounds bus_rules c.args.processor.now in
    λ _. omega (arith, c.passed_beyond.ensures, took, bounds.few, c.if-cycles-left.true, c.requires.within, c.requires.end)

pub stays_calm-is_calm-requires : goal.stays_calm-is_calm-requires
stays_calm-is_calm-requires g c = record { kept = λ kept. subst (IsCalm c.args.left) (sym (c.run_opcode-cycles.ensures.memory kept)) c.requires.calm }

pub move_on-requires : goal.move_on-requires
move_on-requires g c =
    let p = c.args.processor.now in
    let run = c.run_opcode-cycles in
    let q = run.new.self in
    let few : run.result.0 < c.args.left = omega (arith, c.if-cycles-left.false) in
    let still = c.stays_calm-is_calm.ensures c.if-not-is_calm.false in
    fewer_are_quiet (c.args.left - 1) run.result.0 q.memory (omega (arith, few)) still.quiet

pub returns-clause-after : goal.returns-clause-after
returns-clause-after g c =
    let p = c.args.processor.now in
    let run = c.run_opcode-cycles in
    let q = run.new.self in
    fast_after bus_rules c.args.opcode run.result.0 p q c.move_on.new.self c.requires.fast c.requires.here run.ensures.after run.ensures.cycles c.move_on.ensures

pub returns-clause-fast : goal.returns-clause-fast
returns-clause-fast g c =
    let p = c.args.processor.now in
    let run = c.run_opcode-cycles in
    let q = run.new.self in
    let few : run.result.0 < c.args.left = omega (arith, c.if-cycles-left.false) in
    let still = c.stays_calm-is_calm.ensures c.if-not-is_calm.false in
    let calm = subst (IsCalm (c.args.left - run.result.0)) (sym c.move_on.ensures) (calm_after c.args.left run.result.0 q.memory few still) in
    λ _. record {
      usual = run.ensures.usual c.if-not-usual.false c.requires.fast.usual;
      uninterrupted = uninterrupted run.new.self.state.ime (pending_interrupts c.move_on.new.self) (calm.none_pending (omega (arith, few)));
    }

pub returns-clause-still_fast : goal.returns-clause-still_fast
returns-clause-still_fast g c =
    let p = c.args.processor.now in
    let run = c.run_opcode-cycles in
    let q = run.new.self in
    let few : run.result.0 < c.args.left = omega (arith, c.if-cycles-left.false) in
    let still = c.stays_calm-is_calm.ensures c.if-not-is_calm.false in
    let calm = subst (IsCalm (c.args.left - run.result.0)) (sym c.move_on.ensures) (calm_after c.args.left run.result.0 q.memory few still) in
    λ _. record {
      usual = run.ensures.usual c.if-not-usual.false c.requires.fast.usual;
      uninterrupted = uninterrupted run.new.self.state.ime (pending_interrupts c.move_on.new.self) (calm.none_pending (omega (arith, few)));
    }

pub returns-clause-fewer : goal.returns-clause-fewer
returns-clause-fewer g c =
    let run = c.run_opcode-cycles in
    let took = fast_cycles bus_rules c.args.opcode run.result.0 c.args.processor.now c.requires.fast c.requires.here run.ensures.cycles in
    λ _. omega (arith, took, c.if-cycles-left.false)

pub returns-clause-left : goal.returns-clause-left
returns-clause-left g c =
    let run = c.run_opcode-cycles in
    let took = fast_cycles bus_rules c.args.opcode run.result.0 c.args.processor.now c.requires.fast c.requires.here run.ensures.cycles in
    λ _. omega (arith, took, c.if-cycles-left.false)

pub returns-clause-calm : goal.returns-clause-calm
returns-clause-calm g c =
    let p = c.args.processor.now in
    let run = c.run_opcode-cycles in
    let q = run.new.self in
    let few : run.result.0 < c.args.left = omega (arith, c.if-cycles-left.false) in
    let still = c.stays_calm-is_calm.ensures c.if-not-is_calm.false in
    let calm = subst (IsCalm (c.args.left - run.result.0)) (sym c.move_on.ensures) (calm_after c.args.left run.result.0 q.memory few still) in
    let same : (c.args.left + (4294967296 - run.result.0)) % 4294967296 ≡ c.args.left - run.result.0 = omega (arith, few) in
    λ _. rw same calm

pub returns-clause-silent : goal.returns-clause-silent
returns-clause-silent g c =
    let run = c.run_opcode-cycles in
    let q = run.new.self in
    let bounds = step-bounds bus_rules c.args.processor.now in
    let took = fast_cycles bus_rules c.args.opcode run.result.0 c.args.processor.now c.requires.fast c.requires.here run.ensures.cycles in
    let still = c.stays_calm-is_calm.ensures c.if-not-is_calm.false in
    λ _. subst IsSilent (sym c.move_on.ensures) (stays_silent run.result.0 q.memory (still.quiet.serial (omega (arith, took, bounds.some, c.if-cycles-left.false))))
