use Rattle.std.proofs.Common.{◌≡◌, ℕ, replicate, subst, arith}
use Rattle.machine.specs.Machine.{Frame}
use Rattle.playing.specs.Making.{AdvancesByInputs}
use Rattle.playing.proofs.Making.{makes_nothing}
use Rattle.playing.proofs.MoveLaws.{frame_given, frame_stopped}
use Rattle.playing.proofs.Stops.{handed_on}
use Rattle.playing.proofs.moves.give_frames.Goals as goal

pub loop-i-init : goal.loop-i-init
loop-i-init g c = record { made = makes_nothing g.G.Playable c.args.game.now (g.R.Report.contents c.args.report.now); whole = c.requires.whole; few = c.requires.few }

pub loop-i-preserved : goal.loop-i-preserved
loop-i-preserved g c = record {
  made =
      frame_given g.G.Playable c.args.game.now c.loop-i.game c.give.new.game
      (g.R.Report.contents c.args.report.now) (g.R.Report.contents c.loop-i.report) (g.R.Report.contents c.give.new.report) (Frame c.args.buttons) c.loop-i._i c.loop-i.invariant.made c.in_ok-give.ensures.made;
  whole = c.in_ok-give.ensures.whole.0;
  few = c.in_ok-give.ensures.whole.1;
}

pub returns-in_err-give-clause-stopped : goal.returns-in_err-give-clause-stopped
returns-in_err-give-clause-stopped g c =
    rw (handed_on c.from_residual.result c.from_residual.ensures.1)
    (frame_stopped g.G.Playable c.args.game.now c.loop-i.game c.give.new.game
    (g.R.Report.contents c.args.report.now) (g.R.Report.contents c.loop-i.report) (g.R.Report.contents c.give.new.report) (Frame c.args.buttons) c.loop-i._i c.loop-i.invariant.made
    (g.R.Report.has_failed c.give.new.report) c.in_err-give.field-0.0 c.args.times c.loop-i-test.true c.in_err-give.ensures.stopped)

pub returns-clause-made : goal.returns-clause-made
returns-clause-made g c =
    let all : c.loop-i._i ≡ c.args.times = omega (arith, c.loop-i-test.false, c.loop-i.auto._i-end) in
    subst (λ (n : ℕ). AdvancesByInputs g.G.Playable c.args.game.now c.loop-i.game (g.R.Report.contents c.args.report.now) (g.R.Report.contents c.loop-i.report) (replicate n (Frame c.args.buttons))) all c.loop-i.invariant.made
