use Rattle.std.proofs.Common.{subst, sym}
use Rattle.gbkeep.specs.Program.{IsStreamRefused}
use Rattle.refusals.specs.declared.refusal.Refusal.{Refusal}
use Rattle.gbkeep.proofs.StreamTexts.{streamed_to, stream_refused}
use Rattle.gbkeep.proofs.games.stream.Goals as goal

pub returns-in-Ok-clause-served : goal.returns-in-Ok-clause-served
returns-in-Ok-clause-served g c = streamed_to c.in_ok-rom.rom.items c.in_ok-device.device c.in-Ok._left _ _ _ _ _ c.in-Ok.ensures.accepted c.in-Ok.ensures.streamed

pub returns-in-Err-clause-served : goal.returns-in-Err-clause-served
returns-in-Err-clause-served g c =
    subst (λ (fault : Refusal). IsStreamRefused fault (record { before = g.I.LineInput.remaining c.args.input.now; since = g.I.LineInput.remaining c.stream_play.new.input }) (record { before = g.O.Output.contents c.args.out.now; since = g.O.Output.contents c.stream_play.new.out })) (sym c.refusal_of.ensures)
    (stream_refused c.in_ok-rom.rom.items c.in_ok-device.device c.in-Err.stopped.device _ _ _ _ c.in-Err.stopped.why c.in-Err.ensures.cause)
