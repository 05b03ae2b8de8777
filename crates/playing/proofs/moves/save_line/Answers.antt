use Rattle.playing.specs.Making.{IsSaved}
use Rattle.playing.proofs.Steps.{save_told, save_not_told, save_refused}
use Rattle.playing.proofs.moves.save_line.Goals as goal

pub returns-in-Ok-saved-clause-made : goal.returns-in-Ok-saved-clause-made
returns-in-Ok-saved-clause-made g c =
    let one : IsSaved g.G.Playable c.args.game.now c.save.new.self = record { saves = c.in-Ok.ensures.saved; machine_is = c.in-Ok.ensures.machine; acknowledged_is = c.in-Ok.ensures.acknowledged; unsaved_is = c.in-Ok.ensures.unsaved; rom_is = c.save.ensures.rom } in
    save_told g.G.Playable c.args.game.now c.save.new.self (g.R.Report.contents c.args.report.now) (g.R.Report.contents c.saved.new.self) one c.in-Ok.count c.in-Ok.ensures.all c.in-Ok-saved.ensures.ok

pub returns-in-Err-saved-clause-stopped : goal.returns-in-Err-saved-clause-stopped
returns-in-Err-saved-clause-stopped g c =
    let one : IsSaved g.G.Playable c.args.game.now c.save.new.self = record { saves = c.in-Ok.ensures.saved; machine_is = c.in-Ok.ensures.machine; acknowledged_is = c.in-Ok.ensures.acknowledged; unsaved_is = c.in-Ok.ensures.unsaved; rom_is = c.save.ensures.rom } in
    rw c.unwritten.ensures.is
    (save_not_told g.G.Playable c.args.game.now c.save.new.self (g.R.Report.contents c.args.report.now) (g.R.Report.contents c.saved.new.self) one c.in-Ok.count c.in-Ok.ensures.all
    (g.R.Report.has_failed c.saved.new.self) c.unwritten.ensures.told c.in-Err-saved.ensures.failed c.in-Err-saved.ensures.err)

pub returns-in-Err-clause-stopped : goal.returns-in-Err-clause-stopped
returns-in-Err-clause-stopped g c =
    save_refused g.G.Playable c.args.game.now c.save.new.self (g.R.Report.contents c.args.report.now) (g.R.Report.has_failed c.args.report.now) c.in-Err.why c.in-Err.ensures.failed c.in-Err.ensures.kept c.in-Err.ensures.not_told
