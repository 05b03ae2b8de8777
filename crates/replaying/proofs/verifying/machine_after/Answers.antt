use Rattle.std.proofs.Common.{◌∙◌, sym, ap, subst}
use Rattle.bank_controllers.specs.CartridgeState.{IsSameCartridge}
use Rattle.machine.specs.Machine.{MachineState}
use Rattle.machine.proofs.KeptByInputs.{by_inputs}
use Rattle.session.specs.Resting.{IsOfItsRom}
use Rattle.session.proofs.Beginnings.{own_again, start_own, start_rom}
use Rattle.replaying.proofs.verifying.machine_after.Goals as goal

pub returns-in-Ok-replay-clause-own : goal.returns-in-Ok-replay-clause-own
returns-in-Ok-replay-clause-own g c =
    let rom = c.args.cartridge.now in
    let first = c.in-Ok.machine in
    let played = c.replay.ensures.played in
    let begun = c.in-Ok.ensures in
    let now = c.replay.new.machine in
    let same = subst (λ (m : MachineState). IsSameCartridge first.processor.memory.banks m.processor.memory.banks) (sym played.is) (by_inputs first played.inputs played.passes) in (
      own_again first now same (subst IsOfItsRom (sym begun) (start_own rom)),
      same.rom ∙ ap (λ (m : MachineState). m.processor.memory.banks.rom) begun ∙ start_rom rom,
    )
