use Rattle.std.proofs.Common.{◌≡◌, ◌≢◌, ◌∙◌, ap, length, subst}
use Rattle.std.specs.Prelude.{slice_set}
use Rattle.machine.specs.Legal.{IsLegalMachine}
use Rattle.machine.specs.Machine.{MachineState}
use Rattle.snapshot.specs.Encoding.{encoded, snapshot_length}
use Rattle.debugger.specs.History.{DebuggerState}
use Rattle.debugging.specs.Run.{RunState}
use Rattle.debugging.proofs.Parts.{on_err_of, on_ok_of}
use Rattle.machine_lines.specs.Slots.{state_under}
use Rattle.debugging.proofs.switching.keep.Goals as goal

pub returns-then-is_err-clause-memory : goal.returns-then-is_err-clause-memory
returns-then-is_err-clause-memory g c =
    let same : c.machine-machine.result.now ≡ c.args.run.debugger.machine =
    c.machine-machine.ensures ∙ ap (λ (d : DebuggerState). d.machine) c.debugger.ensures ∙ ap (λ (r : RunState). r.debugger.machine) c.draw_late-run.ensures in
    let refused = on_err_of c.keep.result c.is_err.ensures.value c.if-is_err.true c.keep.ensures.refused in
    λ memory. subst (λ (m : MachineState). length (state_under c.args.kept.now c.args.slot) ≢ snapshot_length (length m.processor.memory.banks.ram)) same refused.1

pub returns-in-Ok-clause-legal : goal.returns-in-Ok-clause-legal
returns-in-Ok-clause-legal g c =
    let same : c.machine-machine.result.now ≡ c.args.run.debugger.machine =
    c.machine-machine.ensures ∙ ap (λ (d : DebuggerState). d.machine) c.debugger.ensures ∙ ap (λ (r : RunState). r.debugger.machine) c.draw_late-run.ensures in
    subst (λ (m : MachineState). IsLegalMachine m) same (on_ok_of c.keep.result c.is_err.ensures.value c.if-is_err.false c.keep.ensures.legal)

pub returns-in-Ok-clause-kept : goal.returns-in-Ok-clause-kept
returns-in-Ok-clause-kept g c =
    let same : c.machine-machine.result.now ≡ c.args.run.debugger.machine =
    c.machine-machine.ensures ∙ ap (λ (d : DebuggerState). d.machine) c.debugger.ensures ∙ ap (λ (r : RunState). r.debugger.machine) c.draw_late-run.ensures in
    on_ok_of c.keep.result c.is_err.ensures.value c.if-is_err.false c.keep.ensures.kept ∙ ap (λ (m : MachineState). slice_set c.args.kept.now c.args.slot (encoded m)) same
