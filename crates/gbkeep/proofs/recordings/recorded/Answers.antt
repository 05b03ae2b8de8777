use Rattle.std.proofs.Common.{subst, sym}
use Rattle.command_line.specs.declared.Request.TheVariants.{Recorded}
use Rattle.gbkeep.specs.Program.{IsRefused}
use Rattle.refusals.specs.declared.refusal.Refusal.{Refusal}
use Rattle.gbkeep.proofs.CommandTexts.{recorded_refused}
use Rattle.gbkeep.proofs.recordings.recorded.Goals as goal

pub returns-in-Ok-clause-served : goal.returns-in-Ok-clause-served
returns-in-Ok-clause-served g c = (c.in_ok-rom.rom.items, (c.in-Ok.ensures.accepted, (c.in_ok-device.device, c.in-Ok.ensures.script)))

pub returns-clause-served : goal.returns-clause-served
returns-clause-served g c =
    subst (λ (fault : Refusal). IsRefused (Recorded c.args.cart c.args.recording) fault (g.O.Output.contents c.args.out.now) (g.O.Output.contents c.recorded_lines.new.out)) (sym c.refusal_of.ensures)
    (recorded_refused c.args.cart c.args.recording c.in_ok-rom.rom.items c.in_ok-device.device _ _ c.in-Err.refused.why c.in-Err.ensures.cause)
