use Rattle.std.proofs.Common.{◌∙◌, ap}
use Rattle.machine.specs.declared.machine_without_memory.MachineWithoutMemory.{MachineWithoutMemory}
use Rattle.machine.specs.MachineStores.{restored}
use Rattle.snapshot.proofs.PowerSwitch.{clocked, clocked_legal, clocks_restored}
use Rattle.snapshot.proofs.power.set_clocks.Goals as goal

pub restore-requires : goal.restore-requires
restore-requires c =
    clocked_legal c.args.machine.now.processor.memory.banks c.state-state.result c.args.live c.args.latched c.requires.live c.requires.latched c.state-state.ensures.legal

pub returns : goal.returns
returns c =
    c.restore.ensures
    ∙ ap (λ (r : MachineWithoutMemory). restored (clocked c.args.live c.args.latched r) c.args.machine.now) c.state-state.ensures.state
    ∙ clocks_restored c.args.machine.now c.args.live c.args.latched
