use Rattle.std.proofs.Common.{Some, subst, sym}
use Rattle.gbkeep.specs.Program.{IsDebugRefused}
use Rattle.refusals.specs.declared.refusal.Refusal.{Refusal}
use Rattle.gbkeep.proofs.DebugTexts.{debug_game_refused, game_debugged}
use Rattle.gbkeep.proofs.debugs.resumed.Goals as goal

pub returns-in-Ok-clause-served : goal.returns-in-Ok-clause-served
returns-in-Ok-clause-served g c = game_debugged c.args.save c.args.rom.items c.in_ok-device.device c.in-Ok._left _ _ c.in-Ok.ensures.accepted c.in-Ok.ensures.debugged

pub returns-in-Err-clause-served : goal.returns-in-Err-clause-served
returns-in-Err-clause-served g c =
    subst (λ (fault : Refusal). IsDebugRefused (Some c.args.save) fault (record { before = g.I.LineInput.remaining c.args.input.now; since = g.I.LineInput.remaining c.debug_game.new.input }) (record { before = g.O.Output.contents c.args.out.now; since = g.O.Output.contents c.debug_game.new.out })) (sym c.refusal_of.ensures)
    (debug_game_refused c.args.save c.args.rom.items c.in_ok-device.device c.in-Err.refused.device _ _ c.in-Err.refused.why c.in-Err.ensures.cause)
