use Rattle.std.proofs.Common.{subst, sym}
use Rattle.command_line.specs.declared.Request.TheVariants.{Trace}
use Rattle.gbkeep.specs.Program.{IsRefused}
use Rattle.refusals.specs.declared.refusal.Refusal.{Refusal}
use Rattle.gbkeep.proofs.CommandTexts.{trace_refused}
use Rattle.gbkeep.proofs.games.trace.Goals as goal

pub returns-in-Ok-clause-served : goal.returns-in-Ok-clause-served
returns-in-Ok-clause-served g c = (c.in_ok-rom.rom.items, (c.in-Ok.ensures.accepted, (c.in_ok-device.device, c.in-Ok._left, c.in-Ok.ensures.traced)))

pub returns-in-Err-clause-served : goal.returns-in-Err-clause-served
returns-in-Err-clause-served g c =
    subst (λ (fault : Refusal). IsRefused (Trace c.args.cart c.args.save c.args.count) fault (g.O.Output.contents c.args.out.now) (g.O.Output.contents c.trace_lines.new.out)) (sym c.refusal_of.ensures)
    (trace_refused c.args.cart c.args.save c.args.count c.in_ok-rom.rom.items c.in_ok-device.device c.in-Err.untraced.device _ _ c.in-Err.untraced.why c.in-Err.ensures.cause)
