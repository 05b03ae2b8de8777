use Rattle.std.proofs.Common.{◌≡◌, ◌+◌, ◌++◌, length, true, refl, sym, ◌∙◌}
use Rattle.playing.specs.Making.{count_of}
use Rattle.playing.specs.Report.{unsaved_behind_moves, lines_of_moves, last_line}
use Rattle.script.specs.Inputs.{inputs_of_moves}
use Rattle.playing.proofs.Making.{makes_by, makes_nothing, stops_by}
use Rattle.playing.proofs.ReportLaws.{last_none, last_some}
use Rattle.playing.proofs.Wholes.{resumed_made, resumed_failed, play_made, play_stopped, play_not_saved, play_without_memory}
use Rattle.playing.proofs.moves.play_on.Goals as goal

pub returns-in-Err-clause-stopped : goal.returns-in-Err-clause-stopped
returns-in-Err-clause-stopped g c =
    let game = g.G.Playable in
    let was = c.args.game.now in
    let moves = c.args.moves.now in
    rw c.unwritten.ensures.is
    (resumed_failed game was (g.W.Output.contents c.args.report.now) (g.W.Output.contents c.write_resumed.new.out) c.counts.result.all c.counts.ensures.all c.requires.none (inputs_of_moves moves)
    (lines_of_moves (game.acknowledged was) 0 moves ++ last_line (game.acknowledged was + length (inputs_of_moves moves)) (unsaved_behind_moves 0 moves)) c.unwritten.ensures.told c.in-Err.ensures.failed c.in-Err.ensures.err)

pub returns-in-Ok-false-clause-memory : goal.returns-in-Ok-false-clause-memory
returns-in-Ok-false-clause-memory g c = λ done.
    let game = g.G.Playable in
    let was = c.args.game.now in
    let x = g.W.Output.contents c.args.report.now in
    let y = g.W.Output.contents c.write_resumed.new.out in
    let resumed = resumed_made game was x y c.counts.result.all c.counts.ensures.all c.requires.none c.in_default.ensures.ok in
    play_without_memory game was c.make_moves.new.game x y (g.W.Output.contents c.make_moves.new.report) c.args.moves.now c.requires.none resumed (c.in-Ok-false.ensures.memory c.in-Ok-false.field-0-test)

pub returns-in-Err-make_moves-clause-stopped : goal.returns-in-Err-make_moves-clause-stopped
returns-in-Err-make_moves-clause-stopped g c =
    let game = g.G.Playable in
    let was = c.args.game.now in
    let x = g.W.Output.contents c.args.report.now in
    let y = g.W.Output.contents c.write_resumed.new.out in
    let resumed = resumed_made game was x y c.counts.result.all c.counts.ensures.all c.requires.none c.in_default.ensures.ok in
    play_stopped game was c.make_moves.new.game x y (g.W.Output.contents c.make_moves.new.report) c.args.moves.now c.requires.none resumed (g.W.Output.has_failed c.make_moves.new.report ≡ true) c.in-Err-make_moves.why c.in-Err-make_moves.ensures.stopped

pub returns-then-counts-eq0-clause-made : goal.returns-then-counts-eq0-clause-made
returns-then-counts-eq0-clause-made g c = λ done.
    let game = g.G.Playable in
    let was = c.args.game.now in
    let there = c.make_moves.new.game in
    let x = g.W.Output.contents c.args.report.now in
    let y = g.W.Output.contents c.write_resumed.new.out in
    let z = g.W.Output.contents c.make_moves.new.report in
    let resumed = resumed_made game was x y c.counts.result.all c.counts.ensures.all c.requires.none c.in_default.ensures.ok in
    let none : game.unsaved there ≡ 0 = sym c.counts-2.ensures.pending ∙ c.if-counts-eq0.true in
    play_made game was there x y z c.args.moves.now c.requires.none resumed (c.in-Ok-true.ensures.made c.in-Ok-true.field-0-test) there z
    (makes_by game refl none (sym (last_none (count_of game there) (game.unsaved there) none)) (makes_nothing game there z))

pub returns-in-Ok-clause-made : goal.returns-in-Ok-clause-made
returns-in-Ok-clause-made g c = λ done.
    let game = g.G.Playable in
    let was = c.args.game.now in
    let there = c.make_moves.new.game in
    let x = g.W.Output.contents c.args.report.now in
    let y = g.W.Output.contents c.write_resumed.new.out in
    let resumed = resumed_made game was x y c.counts.result.all c.counts.ensures.all c.requires.none c.in_default.ensures.ok in
    let line = last_some (count_of game there) (game.unsaved there) (λ none. c.if-counts-eq0.false (c.counts-2.ensures.pending ∙ none)) in
    play_made game was there x y (g.W.Output.contents c.make_moves.new.report) c.args.moves.now c.requires.none resumed (c.in-Ok-true.ensures.made c.in-Ok-true.field-0-test)
    c.save_line.new.game (g.W.Output.contents c.save_line.new.report) (makes_by game refl refl (sym line) c.in-Ok.ensures.made)

pub returns-in-Err-save_line-clause-stopped : goal.returns-in-Err-save_line-clause-stopped
returns-in-Err-save_line-clause-stopped g c =
    let game = g.G.Playable in
    let was = c.args.game.now in
    let there = c.make_moves.new.game in
    let x = g.W.Output.contents c.args.report.now in
    let y = g.W.Output.contents c.write_resumed.new.out in
    let resumed = resumed_made game was x y c.counts.result.all c.counts.ensures.all c.requires.none c.in_default.ensures.ok in
    let line = last_some (count_of game there) (game.unsaved there) (λ none. c.if-counts-eq0.false (c.counts-2.ensures.pending ∙ none)) in
    play_not_saved game was there x y (g.W.Output.contents c.make_moves.new.report) c.args.moves.now c.requires.none resumed (c.in-Ok-true.ensures.made c.in-Ok-true.field-0-test)
    c.save_line.new.game (g.W.Output.contents c.save_line.new.report) (g.W.Output.has_failed c.save_line.new.report ≡ true) c.in-Err-save_line.why (stops_by game refl (sym line) c.in-Err-save_line.ensures.stopped)
