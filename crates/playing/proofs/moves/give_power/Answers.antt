use Rattle.machine.specs.Machine.{Power}
use Rattle.playing.proofs.Steps.{input_refused}
use Rattle.playing.proofs.moves.give_power.Goals as goal

pub returns-in-Err-clause-stopped : goal.returns-in-Err-clause-stopped
returns-in-Err-clause-stopped g c =
    input_refused g.G.Playable c.args.game.now c.power.new.self (g.R.Report.contents c.args.report.now) Power (g.R.Report.has_failed c.args.report.now) c.in-Err.why c.in-Err.ensures.refused c.power.ensures.acknowledged c.in-Err.ensures.not_told
