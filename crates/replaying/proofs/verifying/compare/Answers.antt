use Rattle.std.proofs.Common.{◌≡◌, ◌≤◌, ◌∙◌, length, take, sym, ap, arith}
use Rattle.machine.specs.Machine.{after, start}
use Rattle.snapshot.specs.Encoding.{encoded}
use Rattle.snapshot.proofs.Machines.{one_machine}
use Rattle.input_entries.specs.Inputs.{inputs}
use Rattle.recording.specs.Recorded.{entries}
use Rattle.recording.specs.Accessors.{device_of}
use Rattle.session.specs.Inputs.{inputs_of}
use Rattle.session.specs.LookAccessors.{machine_of_look, count_of_look}
use Rattle.session.proofs.Beginnings.{machine_of_rom}
use Rattle.replaying.proofs.verifying.compare.Goals as goal

pub returns-in-Ok-true-clause-leads : goal.returns-in-Ok-true-clause-leads
returns-in-Ok-true-clause-leads g c = λ honest.
    let rom = c.args.cartridge.now in
    let given = inputs (entries (g.D.SectorDevice.disk (device_of c.args.recording.now)).sectors) in
    let counted = c.requires.counted honest in
    let enough : count_of_look c.args.look.now ≤ length given = omega (arith, counted, c.count-count.ensures, c.input_count-recorded.ensures, c.if-recorded-count.false) in
    let own = c.in-Ok.ensures.own in
    let replayed = machine_of_rom rom c.in-Ok.machine own.1 own.0 c.in-Ok-true.ensures.legal in
    let same : encoded (machine_of_look c.args.look.now) ≡ encoded c.in-Ok.machine = sym (c.in-Ok-true.ensures.same.0 c.in-Ok-true.field-0-test ∙ c.snapshot.ensures) in
    record {
      enough = enough;
      machine_is = one_machine rom (machine_of_look c.args.look.now) c.in-Ok.machine c.requires.of replayed same
          ∙ c.in-Ok.ensures.machine honest ∙ ap (λ n. after (start rom) (inputs_of (take n given))) c.count-count.ensures;
    }
