use Rattle.std.proofs.Common.{◌+◌, ℕ, ap, ◌∙◌, sym}
use Rattle.memory_map.specs.State.{BusState}
use Rattle.sm83_processor.specs.declared.processor.Processor.{Processor}
use Rattle.debugger.specs.Registers.{register_line}
use Rattle.test_run.proofs.Reaching.{frame_ends, frame_goes_on}
use Rattle.test_run.proofs.Switching.{frame_same}
use Rattle.test_run.proofs.run.after_frame.Goals as goal

pub returns-in-Some-clause-ok : goal.returns-in-Some-clause-ok
returns-in-Some-clause-ok c = λ limit buttons machine old a b same less has.
    frame_ends limit buttons machine old _ a b c.args.played c.in-Some.why c.ended_at.result less has c.in-Some.is (rw same c.frames_with-progress.ensures)
    (c.ended_at.ensures.line ∙ ap (λ (p : Processor BusState). register_line p) c.processor.ensures)
    (c.ended_at.ensures.registers ∙ ap (λ (p : Processor BusState). p.registers) c.processor.ensures) c.ended_at.ensures.why

pub returns-in-None-clause-ok : goal.returns-in-None-clause-ok
returns-in-None-clause-ok c = λ limit buttons machine old a b same less has.
    frame_goes_on limit buttons machine c.end.result old _ a b c.args.played less has c.in-None.is (ap (λ (n : ℕ). n + 1) (sym same)) c.end.ensures

pub returns-in-None-clause-kept : goal.returns-in-None-clause-kept
returns-in-None-clause-kept c = λ buttons machine is. frame_same buttons machine c.end.result c.args.played.frame is c.end.ensures
