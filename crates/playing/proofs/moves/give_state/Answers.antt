use Rattle.machine.specs.Machine.{State}
use Rattle.snapshot.specs.Reading.{machine_in}
use Rattle.playing.proofs.Steps.{input_refused}
use Rattle.playing.proofs.moves.give_state.Goals as goal

pub returns-in-Err-clause-stopped : goal.returns-in-Err-clause-stopped
returns-in-Err-clause-stopped g c =
    input_refused g.G.Playable c.args.game.now c.restore.new.self (g.R.Report.contents c.args.report.now) (State (machine_in c.args.cartridge.now c.args.bytes.now)) (g.R.Report.has_failed c.args.report.now) c.in-Err.why c.in-Err.ensures.refused
    c.restore.ensures.acknowledged c.in-Err.ensures.not_told
