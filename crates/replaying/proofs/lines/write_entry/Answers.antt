use Rattle.std.proofs.Common.{[], ◌∷◌, ap, sym, subst, ◌∙◌, List}
use Rattle.machine.specs.Machine.{Input}
use Rattle.session.specs.Inputs.{inputs_of}
use Rattle.session.proofs.Replaying.{frames_of, seconds_back}
use Rattle.replaying.specs.Lines.{HasWritten, HasStopped}
use Rattle.replaying.proofs.Answers.{on_ok, on_err}
use Rattle.replaying.proofs.lines.write_entry.Goals as goal

pub returns-in-Some-Frames-clause-ok : goal.returns-in-Some-Frames-clause-ok
returns-in-Some-Frames-clause-ok g c =
    let some = rw c.in-Some-Frames.field-0-is at c.in-Some-Frames.ensures.some in
    on_ok c.write_frames.result c.write_frames.ensures.ok
    (λ written one. subst (λ (l : List Input). HasWritten c.args.run.now c.write_frames.new.run l (g.W.Output.contents c.args.out.now) (g.W.Output.contents c.write_frames.new.out))
    (sym (ap inputs_of some.1 ∙ frames_of c.in-Some-Frames.buttons c.in-Some-Frames.times)) written)

pub returns-in-Some-Frames-clause-err : goal.returns-in-Some-Frames-clause-err
returns-in-Some-Frames-clause-err g c =
    let some = rw c.in-Some-Frames.field-0-is at c.in-Some-Frames.ensures.some in
    on_err c.write_frames.result c.write_frames.ensures.err
    (λ stopped one. subst (λ (l : List Input). HasStopped c.args.run.now l (g.W.Output.contents c.args.out.now) (g.W.Output.contents c.write_frames.new.out))
    (sym (ap inputs_of some.1 ∙ frames_of c.in-Some-Frames.buttons c.in-Some-Frames.times)) stopped)

pub returns-in-Some-Seconds-clause-ok : goal.returns-in-Some-Seconds-clause-ok
returns-in-Some-Seconds-clause-ok g c =
    let some = rw c.in-Some-Seconds.field-0-is at c.in-Some-Seconds.ensures.some in
    let few = rw c.in-Some-Seconds.field-0-is at c.in-Some-Seconds.ensures.times in
    on_ok c.write_run_and_seconds.result c.write_run_and_seconds.ensures.ok
    (λ written one. subst (λ (l : List Input). HasWritten c.args.run.now c.write_run_and_seconds.new.run l (g.W.Output.contents c.args.out.now) (g.W.Output.contents c.write_run_and_seconds.new.out))
    (sym (ap inputs_of some.1 ∙ ap (λ (i : Input). i ∷ []) (seconds_back c.in-Some-Seconds.seconds few))) written)

pub returns-in-Some-Seconds-clause-err : goal.returns-in-Some-Seconds-clause-err
returns-in-Some-Seconds-clause-err g c =
    let some = rw c.in-Some-Seconds.field-0-is at c.in-Some-Seconds.ensures.some in
    let few = rw c.in-Some-Seconds.field-0-is at c.in-Some-Seconds.ensures.times in
    on_err c.write_run_and_seconds.result c.write_run_and_seconds.ensures.err
    (λ stopped one. subst (λ (l : List Input). HasStopped c.args.run.now l (g.W.Output.contents c.args.out.now) (g.W.Output.contents c.write_run_and_seconds.new.out))
    (sym (ap inputs_of some.1 ∙ ap (λ (i : Input). i ∷ []) (seconds_back c.in-Some-Seconds.seconds few))) stopped)
