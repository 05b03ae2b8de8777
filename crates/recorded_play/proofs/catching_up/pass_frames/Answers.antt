use Rattle.std.proofs.Common.{◌≡◌, ℕ, replicate, subst, arith}
use Rattle.std.proofs.lemmas.List.{replicate-append-replicate}
use Rattle.machine.specs.Machine.{Frame}
use Rattle.session.specs.Accessors.{device_of}
use Rattle.playing.specs.Going.{place}
use Rattle.recorded_play.specs.CatchingUp.{AdvancesOver}
use Rattle.recorded_play.proofs.Passing.{passes_nothing, passes_then, passes_by, fails_frames}
use Rattle.recorded_play.proofs.catching_up.pass_frames.Goals as goal

pub loop-i-init : goal.loop-i-init
loop-i-init g c = record {
  whole = c.requires.whole;
  few = c.requires.few;
  passes = passes_nothing (g.met.D.SectorDevice.only_now (device_of c.args.session.now));
}

pub loop-i-preserved : goal.loop-i-preserved
loop-i-preserved g c = record {
  whole = c.in-Ok.ensures.whole.0;
  few = c.in-Ok.ensures.whole.1;
  passes = passes_by (replicate-append-replicate c.loop-i._i 1 (Frame c.args.buttons)) (passes_then c.loop-i.invariant.passes c.in-Ok.ensures.passes);
}

pub returns-clause-passes : goal.returns-clause-passes
returns-clause-passes g c =
    let all : c.loop-i._i ≡ c.args.times = omega (arith, c.loop-i-test.false, c.loop-i.auto._i-end) in
    subst (λ (n : ℕ). AdvancesOver (place c.args.session.now) (place c.loop-i.session) c.args.skip c.loop-i.left (replicate n (Frame c.args.buttons))) all c.loop-i.invariant.passes

pub returns-in-Err-clause-fails : goal.returns-in-Err-clause-fails
returns-in-Err-clause-fails g c = fails_frames (Frame c.args.buttons) c.loop-i._i c.args.times c.loop-i-test.true c.loop-i.invariant.passes c.in-Err.ensures.fails
