use Rattle.std.proofs.Common.{sym, ap, subst, ◌∙◌}
use Rattle.bank_controllers.specs.CartridgeState.{IsSameCartridge}
use Rattle.machine.specs.Machine.{MachineState, start}
use Rattle.debugging.specs.Run.{RunState}
use Rattle.debugging.proofs.StatesKept.{same_as_start}
use Rattle.debugging.proofs.run.Run.power.Goals as goal

pub powered-requires : goal.powered-requires
powered-requires c =
    subst (λ (m : MachineState). IsSameCartridge m.processor.memory.banks (start c.args.cartridge.now).processor.memory.banks)
    (sym (c.into_parts-machine.ensures.machine ∙ ap (λ (r : RunState). r.debugger.machine) c.self.view_is))
    (same_as_start c.args.cartridge.now c.args.self.debugger.machine c.requires)
