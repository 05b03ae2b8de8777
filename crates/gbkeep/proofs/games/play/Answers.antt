use Rattle.std.proofs.Common.{subst, sym}
use Rattle.command_line.specs.declared.Request.TheVariants.{Play}
use Rattle.session.specs.Accessors.{device_of}
use Rattle.gbkeep.specs.Program.{IsRefused}
use Rattle.refusals.specs.declared.refusal.Refusal.{Refusal}
use Rattle.gbkeep.proofs.CommandTexts.{play_refused}
use Rattle.gbkeep.proofs.games.play.Goals as goal

pub returns-in-Ok-clause-served : goal.returns-in-Ok-clause-served
returns-in-Ok-clause-served g c =
    (c.in_ok-rom.rom.items, (c.as_slice.result.now, (c.in_ok-device.device, device_of c.in-Ok.session, c.in-Ok.ensures.plays.played)))

pub returns-clause-served : goal.returns-clause-served
returns-clause-served g c =
    subst (λ (fault : Refusal). IsRefused (Play c.args.cart c.args.save c.args.script) fault (g.O.Output.contents c.args.out.now) (g.O.Output.contents c.play_script.new.report)) (sym c.refusal_of.ensures)
    (play_refused c.args.cart c.args.save c.args.script c.in_ok-rom.rom.items c.as_slice.result.now c.in_ok-device.device c.in-Err.refused.device _ _ c.in-Err.refused.why
    c.in-Err.ensures.undrawn c.in-Err.ensures.plays.cause)
