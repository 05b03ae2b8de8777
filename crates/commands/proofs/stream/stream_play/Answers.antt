use Rattle.std.proofs.Common.{Ok, refl, subst, sym}
use Rattle.sector_device.specs.DiskState.{HasAnswered}
use Rattle.session.proofs.Answering.{answered_error, answered_refusal, answered_value}
use Rattle.commands.specs.Refusals.{faults_after}
use Rattle.streaming.specs.Streamed.{HasStreamed}
use Rattle.streaming.specs.declared.obeying.End.TheVariants.{Whole}
use Rattle.commands.proofs.Streams.{cause_as, streamed_as}
use Rattle.commands.proofs.stream.stream_play.Goals as goal

pub returns-in-Ok-stream-clause-streamed : goal.returns-in-Ok-stream-clause-streamed
returns-in-Ok-stream-clause-streamed g c =
    subst (λ (d : g.row.D.Denot). HasStreamed c.args.rom.items (g.D.SectorDevice.disk c.args.device) (g.D.SectorDevice.disk d) Whole (g.R.LineInput.remaining c.args.input.now) (g.R.LineInput.remaining c.stream.new.input) (g.W.Output.contents c.args.out.now) (g.W.Output.contents c.stream.new.out))
    (sym c.into_device.ensures.device)
    (streamed_as c.args.rom.items c.in-Ok.cartridge _ _ _ _ _ _ _ _ c.in-Ok.ensures.image c.in-Ok-stream.ensures.streamed)

pub returns-clause-cause : goal.returns-clause-cause
returns-clause-cause g c =
    (c.in-Ok.ensures.accepted.0 refl, cause_as c.args.rom.items c.in-Ok.cartridge _ _ _ _ _ _ c.in-Err-stream.refused.why c.in-Ok.ensures.image c.in-Err-stream.ensures.refused)

pub returns-in-Err-clause-answered : goal.returns-in-Err-clause-answered
returns-in-Err-clause-answered g c = answered_refusal (λ n. refl)

pub returns-clause-answered : goal.returns-clause-answered
returns-clause-answered g c = answered_error c.in-Err-stream.ensures.answered (λ n. refl)

pub returns-in-Ok-stream-clause-answered : goal.returns-in-Ok-stream-clause-answered
returns-in-Ok-stream-clause-answered g c =
    subst (λ (d : g.row.D.Denot). HasAnswered (λ refused. faults_after refused.why) (g.D.SectorDevice.disk c.args.device) (g.D.SectorDevice.disk d) (Ok c.into_device.result))
    (sym c.into_device.ensures.device) (answered_value c.in-Ok-stream.ensures.answered)
