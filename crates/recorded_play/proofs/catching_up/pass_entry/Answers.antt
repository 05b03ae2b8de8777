use Rattle.std.proofs.Common.{drop, refl, ap}
use Rattle.session.specs.Accessors.{device_of}
use Rattle.playing.proofs.Stops.{if_ok, if_err}
use Rattle.recorded_play.proofs.Passing.{passes_by, passes_nothing, given_frames, given_seconds, given_none, fails_by}
use Rattle.recorded_play.proofs.catching_up.pass_entry.Goals as goal

pub returns-in-Some-Frames-clause-passes : goal.returns-in-Some-Frames-clause-passes
returns-in-Some-Frames-clause-passes g c =
    let some = rw c.in-Some-Frames.field-0-is at c.in-Some-Frames.ensures.some in
    if_ok c.pass_frames.result c.pass_frames.ensures.passes (λ left passes. passes_by (given_frames c.args.entry.now c.in-Some-Frames.buttons c.in-Some-Frames.times some.0 some.1) passes)

pub returns-in-Some-Frames-clause-fails : goal.returns-in-Some-Frames-clause-fails
returns-in-Some-Frames-clause-fails g c =
    let some = rw c.in-Some-Frames.field-0-is at c.in-Some-Frames.ensures.some in
    if_err c.pass_frames.result c.pass_frames.ensures.fails (λ why fails. fails_by (ap (drop c.args.skip) (given_frames c.args.entry.now c.in-Some-Frames.buttons c.in-Some-Frames.times some.0 some.1)) fails)

pub returns-in-Some-Seconds-clause-passes : goal.returns-in-Some-Seconds-clause-passes
returns-in-Some-Seconds-clause-passes g c =
    let some = rw c.in-Some-Seconds.field-0-is at c.in-Some-Seconds.ensures.some in
    let few = rw c.in-Some-Seconds.field-0-is at c.in-Some-Seconds.ensures.times in
    if_ok c.pass.result c.pass.ensures.passes (λ left passes. passes_by (given_seconds c.args.entry.now c.in-Some-Seconds.seconds few some.0 some.1) passes)

pub returns-in-Some-Seconds-clause-fails : goal.returns-in-Some-Seconds-clause-fails
returns-in-Some-Seconds-clause-fails g c =
    let some = rw c.in-Some-Seconds.field-0-is at c.in-Some-Seconds.ensures.some in
    let few = rw c.in-Some-Seconds.field-0-is at c.in-Some-Seconds.ensures.times in
    if_err c.pass.result c.pass.ensures.fails (λ why fails. fails_by (ap (drop c.args.skip) (given_seconds c.args.entry.now c.in-Some-Seconds.seconds few some.0 some.1)) fails)

pub returns-in-None-clause-passes : goal.returns-in-None-clause-passes
returns-in-None-clause-passes g c =
    passes_by (given_none c.args.entry.now (c.in-None.ensures.none refl)) (passes_nothing (g.met.D.SectorDevice.only_now (device_of c.args.session.now)))
