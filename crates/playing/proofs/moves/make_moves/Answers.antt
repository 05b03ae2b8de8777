use Rattle.std.proofs.Common.{ap, ◌∙◌, subst}
use Rattle.std.proofs.lemmas.List.{take_all}
use Rattle.script.specs.declared.moves.Move.TheVariants.{Frames}
use Rattle.playing.specs.Making.{AdvancesByMoves}
use Rattle.playing.proofs.Making.{advances_rom, makes_nothing}
use Rattle.playing.proofs.MoveLaws.{next_made, next_stopped, next_without_memory}
use Rattle.playing.proofs.moves.make_moves.Goals as goal

pub loop-next-init : goal.loop-next-init
loop-next-init g c = record { made = makes_nothing g.G.Playable c.args.game.now (g.R.Report.contents c.args.report.now); of = c.requires.of; whole = c.requires.whole; few = c.requires.few }

pub loop-next-preserved : goal.loop-next-preserved
loop-next-preserved g c =
    let one = c.in-Ok-true.ensures.made c.in-Ok-true.field-0-test in
    record {
      made =
          next_made g.G.Playable c.args.game.now c.loop-next.game c.make_move.new.game
          (g.R.Report.contents c.args.report.now) (g.R.Report.contents c.loop-next.report) (g.R.Report.contents c.make_move.new.report) c.args.moves.now c.loop-next.next-index (Frames 0 0) c.loop-next-test.true c.loop-next.invariant.made one;
      of = advances_rom g.G.Playable one.advances ∙ c.loop-next.invariant.of;
      whole = c.in-Ok-true.ensures.whole.0;
      few = c.in-Ok-true.ensures.whole.1;
    }

pub returns-in-Ok-false-clause-memory : goal.returns-in-Ok-false-clause-memory
returns-in-Ok-false-clause-memory g c = λ done.
    let nothing = c.in-Ok-false.ensures.nothing c.in-Ok-false.field-0-test in
    next_without_memory g.G.Playable c.args.game.now c.loop-next.game c.make_move.new.game
    (g.R.Report.contents c.args.report.now) (g.R.Report.contents c.loop-next.report) (g.R.Report.contents c.make_move.new.report) c.args.moves.now c.loop-next.next-index (Frames 0 0) c.loop-next-test.true c.loop-next.invariant.made
    nothing.0 nothing.1 (ap g.R.Report.contents nothing.2) nothing.3

pub returns-in-Err-clause-stopped : goal.returns-in-Err-clause-stopped
returns-in-Err-clause-stopped g c =
    next_stopped g.G.Playable c.args.game.now c.loop-next.game c.make_move.new.game
    (g.R.Report.contents c.args.report.now) (g.R.Report.contents c.loop-next.report) (g.R.Report.contents c.make_move.new.report) c.args.moves.now c.loop-next.next-index (Frames 0 0) c.loop-next-test.true c.loop-next.invariant.made
    (g.R.Report.has_failed c.make_move.new.report) c.in-Err.why c.in-Err.ensures.stopped

pub returns-clause-made : goal.returns-clause-made
returns-clause-made g c = λ done.
    let all = take_all c.loop-next.next-index c.args.moves.now c.loop-next-test.false in
    subst (AdvancesByMoves g.G.Playable c.args.game.now c.loop-next.game (g.R.Report.contents c.args.report.now) (g.R.Report.contents c.loop-next.report)) all c.loop-next.invariant.made
