use Rattle.std.proofs.Common.{rules, ◌∙◌, ap}
use Rattle.machine.specs.Machine.{MachineState}
use Rattle.debugging.specs.Run.{RunState}
use Rattle.debugging.specs.States.{with_machine}
use Rattle.debugging.proofs.Restoring.{given_run}
use Rattle.debugging.proofs.Setting.{registers_put_back}
use Rattle.debugging.proofs.run.Run.set_register.Goals as goal

pub returns : goal.returns
returns c =
    let is = registers_put_back c.args.value c.args.self.debugger.machine c.into_parts-machine.result.0 c.restore.new.self c.state-state.result c.with_register-state.result
    (c.into_parts-machine.ensures.machine ∙ ap (λ (r : RunState). r.debugger.machine) c.self.view_is) c.state-state.ensures.state c.with_register-state.ensures c.restore.ensures in
    given_run c.args.self c.from_parts.result c.restore.new.self c.clear.new.self.capacity c.clear.new.self.items c.self.inside.sent.items c.self.inside.played c.from_parts.ensures (search rules) (search rules) (search rules) (search rules)
    ∙ ap (λ (m : MachineState). with_machine m c.args.self) is
