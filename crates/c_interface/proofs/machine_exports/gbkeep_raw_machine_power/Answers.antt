use Rattle.std.proofs.Common.{◌≡◌, ap, ◌∙◌, arith}
use Rattle.machine.specs.Machine.{powered}
use Rattle.embedding.specs.declared.console.Console.{Console}
use Rattle.c_interface.proofs.machine_exports.gbkeep_raw_machine_power.Goals as goal
use Rattle.c_interface.proofs.machine_exports.gbkeep_raw_machine_power.Goals.{in-Ok, in-Err}

pub returns-clause-machine : goal.returns-clause-machine
returns-clause-machine c = λ code.
    let old : c.deref_mut.result.now ≡ c.args.machine.value = c.deref_mut.ensures.value ∙ c.into_box-console.ensures in
    elim c.match-power.branch [
      | in-Ok w ↦ ap (λ (k : Console). k.machine) c.of.ensures.value ∙ w.in-Ok.ensures.machine ∙ ap (λ (k : Console). powered k.machine) old
      | in-Err w ↦ absurd (omega (arith, code, w.code-is))
    ]
