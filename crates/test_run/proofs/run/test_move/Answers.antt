use Rattle.std.proofs.Common.{[], refl, sym, subst}
use Rattle.std.specs.Prelude.{Result, Ok, Err, IfErr, ⊤}
use Rattle.std.proofs.lemmas.Result.{IfOk-weaker}
use Rattle.bank_controllers.specs.CartridgeState.{IsSameCartridge}
use Rattle.machine.specs.Machine.{MachineState, powered}
use Rattle.bank_controllers.proofs.Same.{same_itself, seconds-same}
use Rattle.test_run.proofs.Reaching.{reached_nothing, reached_power, reached_seconds}
use Rattle.test_run.proofs.run.test_move.Goals as goal

err_weaker : {X Y : Type 0} (r : Result X Y) (P Q : Y → Type 0) → ((y : Y) → P y → Q y) → IfErr r P → IfErr r Q
err_weaker (Ok x) P Q more had = had
err_weaker (Err y) P Q more had = more y had

pub returns-in-Ok-clause-ok : goal.returns-in-Ok-clause-ok
returns-in-Ok-clause-ok g c = rw c.in-Frames.is c.in-Ok.ensures.ok

pub returns-in-Seconds-clause-ok : goal.returns-in-Seconds-clause-ok
returns-in-Seconds-clause-ok g c =
    rw c.in-Seconds.is
    (reached_seconds c.args.limit c.in-Seconds.seconds c.args.machine c.after_seconds.result c.args.progress.now _ c.requires.most c.after_seconds.ensures)

pub returns-in-Seconds-clause-kept : goal.returns-in-Seconds-clause-kept
returns-in-Seconds-clause-kept g c =
    subst (λ (m : MachineState). IsSameCartridge c.args.machine.processor.memory.banks m.processor.memory.banks) (sym c.after_seconds.ensures)
    (seconds-same c.in-Seconds.seconds c.args.machine.processor.memory.banks)

pub returns-in-Save-clause-ok : goal.returns-in-Save-clause-ok
returns-in-Save-clause-ok g c = rw c.in-Save.is (reached_nothing c.args.limit [] c.args.machine c.args.progress.now _ c.requires.most)

pub returns-in-Save-clause-kept : goal.returns-in-Save-clause-kept
returns-in-Save-clause-kept g c = same_itself c.args.machine.processor.memory.banks

pub returns-in-Power-clause-ok : goal.returns-in-Power-clause-ok
returns-in-Power-clause-ok g c = rw c.in-Power.is (IfOk-weaker c.switched.result _ _
    (λ went e. rw e (reached_power c.args.limit c.args.machine (powered c.args.machine) c.args.progress.now _ c.requires.most refl)) c.switched.ensures.ok)

pub returns-in-Power-clause-err : goal.returns-in-Power-clause-err
returns-in-Power-clause-err g c =
    rw c.in-Power.is (err_weaker c.switched.result _ _ (λ why e. rw e (refl, refl)) c.switched.ensures.err)
