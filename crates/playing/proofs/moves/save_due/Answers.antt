use Rattle.std.proofs.Common.{sym, ◌∙◌, arith}
use Rattle.playing.proofs.PlayLaws.{on_ok}
use Rattle.playing.proofs.Stops.{if_err}
use Rattle.playing.proofs.Steps.{given_alone, given_saved, given_not_saved}
use Rattle.playing.proofs.moves.save_due.Goals as goal

pub returns-clause-made : goal.returns-clause-made
returns-clause-made g c before input one =
    given_alone g.G.Playable before c.args.game.now (g.R.Report.contents c.args.report.now) input one (λ due. c.if-counts-eq-MOST_UNSAVED.false (c.counts.ensures.pending ∙ one.unsaved_is ∙ due))

pub returns-clause-whole : goal.returns-clause-whole
returns-clause-whole g c = (c.requires.whole, omega (arith, c.counts.ensures.pending, c.if-counts-eq-MOST_UNSAVED.false, c.requires.few))

pub returns-then-counts-eq-MOST_UNSAVED-clause-made : goal.returns-then-counts-eq-MOST_UNSAVED-clause-made
returns-then-counts-eq-MOST_UNSAVED-clause-made g c before input one =
    on_ok c.save_line.result c.save_line.ensures.made
    (given_saved g.G.Playable before c.args.game.now (g.R.Report.contents c.args.report.now) input c.save_line.new.game (g.R.Report.contents c.save_line.new.report) one
    (sym one.unsaved_is ∙ sym c.counts.ensures.pending ∙ c.if-counts-eq-MOST_UNSAVED.true))

pub returns-then-counts-eq-MOST_UNSAVED-clause-stopped : goal.returns-then-counts-eq-MOST_UNSAVED-clause-stopped
returns-then-counts-eq-MOST_UNSAVED-clause-stopped g c before input one =
    if_err c.save_line.result c.save_line.ensures.stopped
    (given_not_saved g.G.Playable before c.args.game.now (g.R.Report.contents c.args.report.now) input c.save_line.new.game (g.R.Report.contents c.save_line.new.report) one
    (sym one.unsaved_is ∙ sym c.counts.ensures.pending ∙ c.if-counts-eq-MOST_UNSAVED.true) (g.R.Report.has_failed c.save_line.new.report))
