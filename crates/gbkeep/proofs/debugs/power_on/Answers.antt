use Rattle.std.proofs.Common.{None, subst, sym}
use Rattle.gbkeep.specs.Program.{IsDebugRefused}
use Rattle.refusals.specs.declared.refusal.Refusal.{Refusal}
use Rattle.gbkeep.proofs.DebugTexts.{debug_rom_refused}
use Rattle.gbkeep.proofs.debugs.power_on.Goals as goal

pub returns-in-Err-clause-served : goal.returns-in-Err-clause-served
returns-in-Err-clause-served g c =
    subst (λ (fault : Refusal). IsDebugRefused None fault (record { before = g.I.LineInput.remaining c.args.input.now; since = g.I.LineInput.remaining c.debug_rom.new.input }) (record { before = g.O.Output.contents c.args.out.now; since = g.O.Output.contents c.debug_rom.new.out })) (sym c.refusal_of.ensures)
    (debug_rom_refused c.args.rom.items _ _ c.in-Err.why c.in-Err.ensures.cause)
