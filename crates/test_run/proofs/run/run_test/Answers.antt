use Rattle.std.proofs.Common.{List, ap, ◌∙◌, inr, refl, subst}
use Rattle.std.specs.Io.KnownBytes.{Appends}
use Rattle.exact_text.specs.Written.{AppendsProperPrefix}
use Rattle.machine.specs.Machine.{MachineState, start}
use Rattle.script.specs.declared.moves.Move.{Move}
use Rattle.test_run.specs.Refusals.{FindsNoMemory}
use Rattle.test_run.specs.Tested.{Tested}
use Rattle.test_run.specs.Text.{test_text}
use Rattle.test_run.specs.Verdict.{verdict_of}
use Rattle.test_run.proofs.Ending.{test_is}
use Rattle.test_run.proofs.Switching.{start_same}
use Rattle.test_run.proofs.run.run_test.Goals as goal

pub returns-in-Ok-test_machine-clause-tested : goal.returns-in-Ok-test_machine-clause-tested
returns-in-Ok-test_machine-clause-tested g c =
    let moves = c.in-Ok-read_script.moves.items in
    let whole = test_is c.args.rom.items moves c.deref.result.now c.args.frames c.in-Ok-power_on.machine c.deref.ensures.value
    (c.in-Ok-power_on.ensures ∙ ap start c.in-Ok.ensures.image) in record {
      accepted = c.in-Ok.ensures.accepted.0 refl;
      moves = moves;
      script_is = c.in-Ok-read_script.ensures.moves;
      written = subst (λ (t : Tested). Appends (g.W.Output.contents c.args.out.now) (g.W.Output.contents c.test_machine.new.out) (test_text t)) whole c.in-Ok-test_machine.ensures.written;
      verdict_is = c.in-Ok-test_machine.ensures.verdict ∙ ap verdict_of whole;
    }

pub test_machine-requires : goal.test_machine-requires
test_machine-requires g c = start_same c.in-Ok.cartridge c.in-Ok-power_on.machine c.in-Ok-power_on.ensures

pub returns-in-Err-Memory-clause-refused : goal.returns-in-Err-Memory-clause-refused
returns-in-Err-Memory-clause-refused g c =
    let moves = c.in-Ok-read_script.moves.items in
    let stops = rw c.in-Err-Memory.field-0-is at c.in-Err-Memory.ensures.err in
    inr (record {
      accepted = c.in-Ok.ensures.accepted.0 refl;
      moves = moves;
      script_is = c.in-Ok-read_script.ensures.moves;
      stops =
          subst (λ (l : List Move). FindsNoMemory c.args.frames 0 l (start c.args.rom.items) (g.W.Output.contents c.args.out.now) (g.W.Output.contents c.test_machine.new.out)) c.deref.ensures.value
          (subst (λ (m : MachineState). FindsNoMemory c.args.frames 0 c.deref.result.now m (g.W.Output.contents c.args.out.now) (g.W.Output.contents c.test_machine.new.out))
          (c.in-Ok-power_on.ensures ∙ ap start c.in-Ok.ensures.image) stops);
    })

pub returns-clause-refused : goal.returns-clause-refused
returns-clause-refused g c =
    let moves = c.in-Ok-read_script.moves.items in
    let stops = rw c.in-Err-Output.field-0-is at c.in-Err-Output.ensures.err in
    let whole = test_is c.args.rom.items moves c.deref.result.now c.args.frames c.in-Ok-power_on.machine c.deref.ensures.value
    (c.in-Ok-power_on.ensures ∙ ap start c.in-Ok.ensures.image) in record {
      accepted = c.in-Ok.ensures.accepted.0 refl;
      moves = moves;
      script_is = c.in-Ok-read_script.ensures.moves;
      written = subst (λ (t : Tested). AppendsProperPrefix (g.W.Output.contents c.args.out.now) (g.W.Output.contents c.test_machine.new.out) (test_text t)) whole stops;
    }
