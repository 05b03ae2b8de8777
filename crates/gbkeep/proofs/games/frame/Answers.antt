use Rattle.std.proofs.Common.{subst, sym}
use Rattle.command_line.specs.declared.Request.TheVariants.{Frame}
use Rattle.gbkeep.specs.Program.{IsRefused}
use Rattle.refusals.specs.declared.refusal.Refusal.{Refusal}
use Rattle.gbkeep.proofs.CommandTexts.{frame_refused}
use Rattle.gbkeep.proofs.games.frame.Goals as goal

pub returns-in-Ok-clause-served : goal.returns-in-Ok-clause-served
returns-in-Ok-clause-served g c =
    (c.in_ok-rom.rom.items, (c.in_ok-device.device, c.in-Ok._left, c.in-Ok.ensures.plays.played))

pub returns-clause-served : goal.returns-clause-served
returns-clause-served g c =
    subst (λ (fault : Refusal). IsRefused (Frame c.args.cart c.args.save c.args.picture) fault (g.O.Output.contents c.args.out.now) (g.O.Output.contents c.play_and_draw.new.report)) (sym c.refusal_of.ensures)
    (frame_refused c.args.cart c.args.save c.args.picture c.in_ok-rom.rom.items c.in_ok-device.device c.in-Err.refused.device _ _ c.in-Err.refused.why c.in-Err.ensures.plays.cause)
