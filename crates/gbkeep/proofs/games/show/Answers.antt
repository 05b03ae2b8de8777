use Rattle.std.proofs.Common.{subst, sym}
use Rattle.command_line.specs.declared.Request.TheVariants.{Show}
use Rattle.gbkeep.specs.Program.{IsRefused}
use Rattle.refusals.specs.declared.refusal.Refusal.{Refusal}
use Rattle.gbkeep.proofs.CommandTexts.{show_refused}
use Rattle.gbkeep.proofs.games.show.Goals as goal

pub returns-in-Ok-clause-served : goal.returns-in-Ok-clause-served
returns-in-Ok-clause-served g c = (c.in_ok-rom.rom.items, (c.in-Ok.ensures.accepted, (c.in_ok-device.device, c.in-Ok.ensures.shown)))

pub returns-clause-served : goal.returns-clause-served
returns-clause-served g c =
    subst (λ (fault : Refusal). IsRefused (Show c.args.cart c.args.save) fault (g.O.Output.contents c.args.out.now) (g.O.Output.contents c.show_lines.new.out)) (sym c.refusal_of.ensures)
    (show_refused c.args.cart c.args.save c.in_ok-rom.rom.items c.in_ok-device.device _ _ c.in-Err.unshown.why c.in-Err.ensures.cause)
