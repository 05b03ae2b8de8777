use Rattle.std.proofs.Common.{◌≡◌, ℕ, List, refl, sym, ap, ◌∙◌, subst}
use Rattle.cartridge.specs.Header.{has_rumble, ram_length_of}
use Rattle.snapshot.specs.Table.{kind_of_image}
use Rattle.machine.specs.Machine.{MachineState, start}
use Rattle.snapshot.specs.Legal.{IsOfImage}
use Rattle.session.proofs.Beginnings.{start_own, start_rom}
use Rattle.debugging.specs.Debugged.{Exchange, HasAnsweredAll, IsDebugCause}
use Rattle.debugging.specs.Run.{begun}
use Rattle.commands.proofs.debug.debug_rom.Goals as goal

start_of : (rom : List ℕ) → IsOfImage rom (start rom)
start_of rom = let own = start_own rom in record {
  rom = start_rom rom;
  kind = own.kind ∙ ap kind_of_image (start_rom rom);
  rumble = own.rumble ∙ ap has_rumble (start_rom rom);
  ram_length = own.ram_length ∙ ap ram_length_of (start_rom rom);
}

pub new-requires : goal.new-requires
new-requires g c = ap (λ (m : MachineState). m.processor.memory.banks.rom) c.in-Ok-power_on.ensures ∙ start_rom c.in-Ok.cartridge

pub obey-requires : goal.obey-requires
obey-requires g c = subst (λ r. IsOfImage c.in-Ok.cartridge r.debugger.machine) (sym (c.in-Ok-new.ensures ∙ ap begun c.in-Ok-power_on.ensures)) (start_of c.in-Ok.cartridge)

pub returns-in-Ok-obey-clause-answered : goal.returns-in-Ok-obey-clause-answered
returns-in-Ok-obey-clause-answered g c =
    let lines : Exchange = record { unread = g.R.LineInput.remaining c.args.input.now; left = g.R.LineInput.remaining c.obey.new.input; before = g.W.Output.contents c.args.out.now; since = g.W.Output.contents c.obey.new.out } in
    subst (λ r. HasAnsweredAll r lines) (c.in-Ok-new.ensures ∙ ap begun (c.in-Ok-power_on.ensures ∙ ap start c.in-Ok.ensures.image)) c.in-Ok-obey.ensures.answered

pub returns-clause-cause : goal.returns-clause-cause
returns-clause-cause g c =
    let lines : Exchange = record { unread = g.R.LineInput.remaining c.args.input.now; left = g.R.LineInput.remaining c.obey.new.input; before = g.W.Output.contents c.args.out.now; since = g.W.Output.contents c.obey.new.out } in (
      c.in-Ok.ensures.accepted.0 refl,
      subst (λ r. IsDebugCause c.in-Err-obey.why r lines) (c.in-Ok-new.ensures ∙ ap begun (c.in-Ok-power_on.ensures ∙ ap start c.in-Ok.ensures.image)) c.in-Err-obey.ensures.refused,
    )
