-- The end of a test, and the test as a whole.
use Rattle.std.proofs.Common.{◌≡◌, ◌∙◌, ℕ, List, ◌++◌, Bool, Option, replicate, ap, subst}
use Rattle.std.specs.Prelude.{codes}
use Rattle.std.specs.Io.KnownBytes.{Appends}
use Rattle.exact_text.specs.Written.{AppendsProperPrefix}
use Rattle.exact_text.proofs.Writes.{appends_twice, whole_then_prefix}
use Rattle.circular_buffer.specs.Buffer.{keep_last}
use Rattle.sm83_alu.specs.declared.register_file.Registers.{Registers}
use Rattle.script.specs.declared.moves.Move.{Move}
use Rattle.machine.specs.Machine.{Frame}
use Rattle.machine.specs.Machine.{MachineState, start}
use Rattle.debugger.specs.Registers.{register_line}
use Rattle.test_run.specs.declared.ends.End.{End}
use Rattle.test_run.specs.declared.run.Ended.{Ended}
use Rattle.test_run.specs.declared.run.Progress.{Progress}
use Rattle.test_run.specs.declared.verdict.Verdict.{Verdict}
use Rattle.script.specs.Inputs.{inputs_of_moves}
use Rattle.test_run.specs.Tested.{Tested, test_of, tested}
use Rattle.test_run.specs.Text.{ended_line, frames_line, last_lines, line_end, test_text}
use Rattle.test_run.specs.Told.{ToldState, line_end_told, nothing_told, told_all}
use Rattle.test_run.specs.Verdict.{says, verdict_by, verdict_of}
use Rattle.test_run.specs.Playing.{HasEnded}
use Rattle.test_run.proofs.Telling.{line_is_ended, told-all}

module _ (whole : Tested) (old new : Progress) (a b : Option (List ℕ)) (ended : Ended) (none : old.told ≡ nothing_told) (has : HasEnded whole old new a b ended) where
  told_is : new.told ≡ record { last = keep_last 6 whole.sent; passed = says (codes "Passed") whole.sent; failed = says (codes "Failed") whole.sent }
  told_is = has.told ∙ ap (λ (t : ToldState). told_all t whole.sent) none ∙ told-all whole.sent

  end_text : line_end_told new.told.last ++ (ended.line.bytes ++ (frames_line new.done ++ ended_line ended.why)) ≡ line_end whole.sent ++ last_lines whole
  end_text =
      ap (λ (t : ToldState). line_end_told t.last ++ (ended.line.bytes ++ (frames_line new.done ++ ended_line ended.why))) told_is
      ∙ ap (λ (l : List ℕ). l ++ (ended.line.bytes ++ (frames_line new.done ++ ended_line ended.why))) (line_is_ended whole.sent)
      ∙ ap (λ (l : List ℕ). line_end whole.sent ++ (l ++ (frames_line new.done ++ ended_line ended.why))) has.line
      ∙ ap (λ (n : ℕ). line_end whole.sent ++ (register_line whole.processor ++ (frames_line n ++ ended_line ended.why))) has.frames
      ∙ ap (λ (w : End). line_end whole.sent ++ (register_line whole.processor ++ (frames_line whole.frames ++ ended_line w))) has.why

  pub end_written : (c : Option (List ℕ)) → Appends b c (line_end_told new.told.last ++ (ended.line.bytes ++ (frames_line new.done ++ ended_line ended.why)))
      → Appends a c (test_text whole)
  end_written c lines = appends_twice a b c whole.sent (line_end whole.sent ++ last_lines whole) has.written (subst (Appends b c) end_text lines)

  pub end_cut : (c : Option (List ℕ)) → AppendsProperPrefix b c (line_end_told new.told.last ++ (ended.line.bytes ++ (frames_line new.done ++ ended_line ended.why)))
      → AppendsProperPrefix a c (test_text whole)
  end_cut c part = whole_then_prefix a b c whole.sent (line_end whole.sent ++ last_lines whole) has.written (subst (AppendsProperPrefix b c) end_text part)

  pub end_verdict : (v : Verdict) (passed failed : Bool) → v ≡ verdict_by ended.why ended.registers passed failed → passed ≡ new.told.passed → failed ≡ new.told.failed
      → v ≡ verdict_of whole
  end_verdict v passed failed e p f =
      e
      ∙ ap (λ (x : Bool). verdict_by ended.why ended.registers x failed) (p ∙ ap (λ (t : ToldState). t.passed) told_is)
      ∙ ap (λ (x : Bool). verdict_by ended.why ended.registers (says (codes "Passed") whole.sent) x) (f ∙ ap (λ (t : ToldState). t.failed) told_is)
      ∙ ap (λ (w : End). verdict_by w ended.registers (says (codes "Passed") whole.sent) (says (codes "Failed") whole.sent)) has.why
      ∙ ap (λ (r : Registers). verdict_by whole.why r (says (codes "Passed") whole.sent) (says (codes "Failed") whole.sent)) has.registers

-- the test of a ROM
pub test_is : (rom : List ℕ) (moves items : List Move) (frames : ℕ) (m : MachineState) → items ≡ moves → m ≡ start rom
    → tested frames 0 (inputs_of_moves items ++ replicate frames (Frame 0)) m ≡ test_of rom moves frames
unfolding test_of
test_is rom moves items frames m e f =
    ap (λ (ms : List Move). tested frames 0 (inputs_of_moves ms ++ replicate frames (Frame 0)) m) e
    ∙ ap (λ (m : MachineState). tested frames 0 (inputs_of_moves moves ++ replicate frames (Frame 0)) m) f
