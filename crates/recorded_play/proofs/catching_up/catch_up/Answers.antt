use Rattle.std.proofs.Common.{◌∙◌, ◌++◌, [], drop, refl, ap, append-nil}
use Rattle.recording.specs.Accessors.{device_of as device_of_recording}
use Rattle.session.specs.Accessors.{pending_of, acknowledged_of}
use Rattle.playing.specs.Going.{place}
use Rattle.playing.proofs.Going.{goes_all, goes_then, no_further_at_all, none_left}
use Rattle.recorded_play.specs.CatchingUp.{recorded_in}
use Rattle.recorded_play.proofs.Passing.{fails_then, fails_giving}
use Rattle.recorded_play.proofs.catching_up.catch_up.Goals as goal

pub returns-in-Ok-clause-caught_up : goal.returns-in-Ok-clause-caught_up
returns-in-Ok-clause-caught_up g c =
    let passes = c.in_default.ensures.passes.1 in
    let given = drop c.counts-count.result.acknowledged passes.passed in
    record {
      more = given ++ [];
      goes = goes_then (place c.args.session.now) (place c.pass_all.new.session) (place c.save_line.new.game) given [] passes.passes.goes
          (goes_all g.met.D.SectorDevice.only_now (λ a b input one. one) (λ a b one. one) c.pass_all.new.session c.save_line.new.game [] c.in-Ok.ensures.made.advances);
      more_is = λ honest. append-nil given ∙ ap (λ r. drop r.acknowledged passes.passed) c.counts-count.ensures ∙ ap (drop (acknowledged_of c.args.session.now)) (passes.passed_is honest);
      looks = passes.looks;
      calls = passes.calls;
    }

pub returns-in-Ok-clause-whole : goal.returns-in-Ok-clause-whole
returns-in-Ok-clause-whole g c = (c.in-Ok.ensures.whole, c.in_default.ensures.whole.1, none_left (pending_of c.save_line.new.game) c.in-Ok.ensures.made.unsaved_is)

pub returns-in-Err-clause-fails : goal.returns-in-Err-clause-fails
returns-in-Err-clause-fails g c = rw (ap (λ r. r.acknowledged) c.counts-count.ensures) at c.in-Err.ensures.fails

pub returns-in-Err-save_line-clause-fails : goal.returns-in-Err-save_line-clause-fails
returns-in-Err-save_line-clause-fails g c =
    let passes = c.in_default.ensures.passes.1 in
    let given = drop c.counts-count.result.acknowledged passes.passed in
    fails_giving (acknowledged_of c.args.session.now) (recorded_in (g.E.SectorDevice.disk (device_of_recording c.args.recording.now)))
    (λ honest. append-nil given ∙ ap (λ r. drop r.acknowledged passes.passed) c.counts-count.ensures ∙ ap (drop (acknowledged_of c.args.session.now)) (passes.passed_is honest)) passes.looks passes.calls
    (fails_then passes.passes.goes (record {
      no_further = no_further_at_all g.met.D.SectorDevice.only_now (λ a b input one. one) (λ a b one. one) (λ a b input why one. one) (λ a b why one. one) refl c.pass_all.new.session c.save_line.new.game [] c.in-Err-save_line.why c.in-Err-save_line.ensures.stopped.stops;
      silent = c.in-Err-save_line.ensures.stopped.output;
    }))
