use Rattle.std.proofs.Common.{◌∷◌, [], sym, subst}
use Rattle.script.specs.declared.moves.Move.{Move}
use Rattle.script.specs.declared.moves.Move.TheVariants.{Frames, Save}
use Rattle.playing.specs.Making.{AdvancesByMoves, StopsByMoves}
use Rattle.playing.proofs.MoveLaws.{move_made, move_stopped}
use Rattle.playing.proofs.Stops.{if_ok}
use Rattle.playing.proofs.moves.make_move.Goals as goal

pub returns-in-Ok-clause-made : goal.returns-in-Ok-clause-made
returns-in-Ok-clause-made g c = λ done.
    let made = λ (m : Move). AdvancesByMoves g.G.Playable c.args.game.now c.give_frames.new.game (g.R.Report.contents c.args.report.now) (g.R.Report.contents c.give_frames.new.report) (m ∷ []) in
    subst made (sym c.in-Frames.is) (move_made g.G.Playable (Frames c.in-Frames.buttons c.in-Frames.times) c.in-Ok.ensures.made)

pub returns-in-Err-clause-stopped : goal.returns-in-Err-clause-stopped
returns-in-Err-clause-stopped g c =
    let stopped = λ (m : Move). StopsByMoves g.G.Playable c.args.game.now c.give_frames.new.game (g.R.Report.contents c.args.report.now) (g.R.Report.contents c.give_frames.new.report) (g.R.Report.has_failed c.give_frames.new.report) (m ∷ []) c.in-Err.why in
    subst stopped (sym c.in-Frames.is) (move_stopped g.G.Playable (Frames c.in-Frames.buttons c.in-Frames.times) c.in-Err.ensures.stopped)

pub returns-in-Ok-give-clause-made : goal.returns-in-Ok-give-clause-made
returns-in-Ok-give-clause-made g c = λ done.
    let made = λ (m : Move). AdvancesByMoves g.G.Playable c.args.game.now c.give.new.game (g.R.Report.contents c.args.report.now) (g.R.Report.contents c.give.new.report) (m ∷ []) in
    subst made (sym c.in-Seconds.is) c.in-Ok-give.ensures.made

pub returns-in-Err-give-clause-stopped : goal.returns-in-Err-give-clause-stopped
returns-in-Err-give-clause-stopped g c =
    let stopped = λ (m : Move). StopsByMoves g.G.Playable c.args.game.now c.give.new.game (g.R.Report.contents c.args.report.now) (g.R.Report.contents c.give.new.report) (g.R.Report.has_failed c.give.new.report) (m ∷ []) c.in-Err-give.why in
    subst stopped (sym c.in-Seconds.is) c.in-Err-give.ensures.stopped

pub returns-in-Ok-save_line-clause-made : goal.returns-in-Ok-save_line-clause-made
returns-in-Ok-save_line-clause-made g c = λ done.
    let made = λ (m : Move). AdvancesByMoves g.G.Playable c.args.game.now c.save_line.new.game (g.R.Report.contents c.args.report.now) (g.R.Report.contents c.save_line.new.report) (m ∷ []) in
    subst made (sym c.in-Save.is) (move_made g.G.Playable Save c.in-Ok-save_line.ensures.made)

pub returns-in-Err-save_line-clause-stopped : goal.returns-in-Err-save_line-clause-stopped
returns-in-Err-save_line-clause-stopped g c =
    let stopped = λ (m : Move). StopsByMoves g.G.Playable c.args.game.now c.save_line.new.game (g.R.Report.contents c.args.report.now) (g.R.Report.contents c.save_line.new.report) (g.R.Report.has_failed c.save_line.new.report) (m ∷ []) c.in-Err-save_line.why in
    subst stopped (sym c.in-Save.is) (move_stopped g.G.Playable Save c.in-Err-save_line.ensures.stopped)

pub returns-in-Power-clause-made : goal.returns-in-Power-clause-made
returns-in-Power-clause-made g c = rw c.in-Power.is c.give_power.ensures.made

pub returns-in-Power-clause-nothing : goal.returns-in-Power-clause-nothing
returns-in-Power-clause-nothing g c = if_ok c.give_power.result c.give_power.ensures.nothing (λ done nothing not. let left = nothing not in (c.in-Power.is, left.0, left.1, left.2))

pub returns-in-Power-clause-stopped : goal.returns-in-Power-clause-stopped
returns-in-Power-clause-stopped g c = rw c.in-Power.is c.give_power.ensures.stopped
