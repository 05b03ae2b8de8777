use Rattle.machine.specs.Machine.{as_input}
use Rattle.playing.specs.Making.{IsGiven}
use Rattle.playing.proofs.Steps.{input_refused}
use Rattle.playing.proofs.moves.give.Goals as goal

pub returns-in-Err-clause-stopped : goal.returns-in-Err-clause-stopped
returns-in-Err-clause-stopped g c =
    input_refused g.G.Playable c.args.game.now c.input.new.self (g.R.Report.contents c.args.report.now) (as_input c.args.input) (g.R.Report.has_failed c.args.report.now) c.in-Err.why c.in-Err.ensures.refused c.input.ensures.acknowledged c.in-Err.ensures.not_told

pub returns-in-Ok-clause-made : goal.returns-in-Ok-clause-made
returns-in-Ok-clause-made g c =
    let one : IsGiven g.G.Playable c.args.game.now c.input.new.self (as_input c.args.input) = record { gives = c.in-Ok.ensures.given; machine_is = c.in-Ok.ensures.machine; acknowledged_is = c.input.ensures.acknowledged; unsaved_is = c.in-Ok.ensures.unsaved; rom_is = c.input.ensures.rom } in
    c.save_due.ensures.made c.args.game.now (as_input c.args.input) one

pub returns-in-Ok-clause-stopped : goal.returns-in-Ok-clause-stopped
returns-in-Ok-clause-stopped g c =
    let one : IsGiven g.G.Playable c.args.game.now c.input.new.self (as_input c.args.input) = record { gives = c.in-Ok.ensures.given; machine_is = c.in-Ok.ensures.machine; acknowledged_is = c.input.ensures.acknowledged; unsaved_is = c.in-Ok.ensures.unsaved; rom_is = c.input.ensures.rom } in
    c.save_due.ensures.stopped c.args.game.now (as_input c.args.input) one
