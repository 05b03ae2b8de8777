use Rattle.std.proofs.Common.{◌≡◌, ◌∙◌, ℕ, ◌<◌, List, refl, subst, sym}
use Rattle.std.specs.Prelude.{IfErr, IfOk, OnOk}
use Rattle.std.specs.Io.KnownBytes.{Appends}
use Rattle.exact_text.specs.Written.{AppendsProperPrefix}
use Rattle.debugging.specs.declared.order.StateOrder.TheVariants.{Power, Keep, Back, Profile}
use Rattle.debugging.specs.declared.order.Condition.{Condition}
use Rattle.debugging.specs.Answers.{profile_text, until_steps}
use Rattle.debugging.specs.Run.{after_steps_of}
use Rattle.debugging.specs.Switching.{IsRefusedAnswer}
use Rattle.debugging.specs.KeptStates.{DebugState}
use Rattle.debugging.specs.Numbers.{IsNumbered}
use Rattle.debugging.proofs.StatesKept.{back_is, if_ok_of, memory_always, memory_by, not_switched, not_written, on_err_with, on_ok_always, on_ok_both, on_ok_of_run, switched, takes_room}
use Rattle.machine_lines.proofs.SlotLaws.{one_kept, machine_of}
use Rattle.machine_lines.specs.KeptStates.{slots, kept_under}
use Rattle.machine_lines.specs.Slots.{IsKeptAs, AreKept}
use Rattle.debugging.proofs.switching.switch.Goals as goal

pub returns-in-Power-clause-done : goal.returns-in-Power-clause-done
returns-in-Power-clause-done g c machines kept =
    let d : DebugState = record { run = c.args.run; kept = machines } in
    switched c.args.cartridge.now Power c.args.order c.in-Power.is c.args.number d c.args.kept.now _ _ c.power.result c.power.ensures.run
    (on_ok_always c.power.result kept) c.power.ensures.ok

pub returns-in-Power-clause-refused : goal.returns-in-Power-clause-refused
returns-in-Power-clause-refused g c machines kept =
    let d : DebugState = record { run = c.args.run; kept = machines } in
    not_switched c.args.cartridge.now Power c.args.order c.in-Power.is c.args.number d c.args.kept.now _ _ c.power.result c.power.ensures.err (memory_always c.power.result refl)

pub returns-in-Profile-clause-done : goal.returns-in-Profile-clause-done
returns-in-Profile-clause-done g c machines kept =
    let d : DebugState = record { run = c.args.run; kept = machines } in
    let limit = c.in-Profile.steps in
    switched c.args.cartridge.now (Profile limit c.in-Profile.conditions) c.args.order c.in-Profile.is c.args.number d c.args.kept.now _ _ c.profile.result
    (subst (λ (conditions : List Condition). IfOk c.profile.result (λ now. now ≡ after_steps_of (until_steps limit conditions c.args.run) c.args.run)) c.as_slice.ensures.value c.profile.ensures.run)
    (on_ok_always c.profile.result kept)
    (subst (λ (conditions : List Condition). OnOk c.profile.result (Appends (g.W.Output.contents c.args.out.now) (g.W.Output.contents c.profile.new.out) (profile_text (until_steps limit conditions c.args.run) limit c.args.run)))
    c.as_slice.ensures.value c.profile.ensures.ok)

pub returns-in-Profile-clause-refused : goal.returns-in-Profile-clause-refused
returns-in-Profile-clause-refused g c machines kept =
    let d : DebugState = record { run = c.args.run; kept = machines } in
    let limit = c.in-Profile.steps in
    not_switched c.args.cartridge.now (Profile limit c.in-Profile.conditions) c.args.order c.in-Profile.is c.args.number d c.args.kept.now _ _ c.profile.result
    (subst (λ (conditions : List Condition).
    IfErr c.profile.result (λ why. IsRefusedAnswer why (profile_text (until_steps limit conditions c.args.run) limit c.args.run) (g.W.Output.contents c.args.out.now) (g.W.Output.contents c.profile.new.out)))
    c.as_slice.ensures.value c.profile.ensures.err)
    (memory_always c.profile.result refl)

pub returns-in-Keep-clause-done : goal.returns-in-Keep-clause-done
returns-in-Keep-clause-done g c machines kept =
    let d : DebugState = record { run = c.args.run; kept = machines } in
    let n = c.in-Keep.slot in
    let below : n < slots = subst IsNumbered c.in-Keep.is c.requires.numbered in
    let m = c.args.run.debugger.machine in
    switched c.args.cartridge.now (Keep n) c.args.order c.in-Keep.is c.args.number d c.keep.new.kept _ _ c.keep.result c.keep.ensures.run
    (on_ok_both c.keep.result c.keep.ensures.kept c.keep.ensures.legal
    (λ is legal. one_kept c.args.cartridge.now c.args.kept.now c.keep.new.kept machines n m (machine_of c.args.cartridge.now m c.requires.of legal) c.keep.ensures.size below is kept))
    c.keep.ensures.ok

pub returns-in-Keep-clause-refused : goal.returns-in-Keep-clause-refused
returns-in-Keep-clause-refused g c machines kept =
    let d : DebugState = record { run = c.args.run; kept = machines } in
    let n = c.in-Keep.slot in
    let below : n < slots = subst IsNumbered c.in-Keep.is c.requires.numbered in
    not_switched c.args.cartridge.now (Keep n) c.args.order c.in-Keep.is c.args.number d c.args.kept.now _ _ c.keep.result c.keep.ensures.err
    (memory_by c.keep.result c.keep.ensures.memory (takes_room c.args.cartridge.now c.args.kept.now n c.args.run machines c.requires.of kept below))

pub returns-in-Back-clause-done : goal.returns-in-Back-clause-done
returns-in-Back-clause-done g c machines kept =
    let d : DebugState = record { run = c.args.run; kept = machines } in
    let n = c.in-Back.slot in
    let rom = c.args.cartridge.now in
    let below : n < slots = subst IsNumbered c.in-Back.is c.requires.numbered in
    let here = subst (λ (bytes : List ℕ). IsKeptAs rom bytes (kept_under n machines)) (sym c.state.ensures) (kept n below) in
    let it = back_is rom c.state.result.now c.args.run c.requires.of machines (kept_under n machines) here in
    switched rom (Back n) c.args.order c.in-Back.is c.args.number d c.args.kept.now _ _ c.back.result
    (if_ok_of c.back.result c.back.ensures.run (λ now is. is ∙ it.0))
    (on_ok_always c.back.result (subst (AreKept rom c.args.kept.now) (sym it.1) kept))
    (on_ok_of_run c.back.result c.back.ensures.ok (λ told. subst (Appends _ _) (it.2 n c.args.number) told))

pub returns-in-Back-clause-refused : goal.returns-in-Back-clause-refused
returns-in-Back-clause-refused g c machines kept =
    let d : DebugState = record { run = c.args.run; kept = machines } in
    let n = c.in-Back.slot in
    let rom = c.args.cartridge.now in
    let below : n < slots = subst IsNumbered c.in-Back.is c.requires.numbered in
    let here = subst (λ (bytes : List ℕ). IsKeptAs rom bytes (kept_under n machines)) (sym c.state.ensures) (kept n below) in
    let it = back_is rom c.state.result.now c.args.run c.requires.of machines (kept_under n machines) here in
    not_written rom (Back n) c.args.order c.in-Back.is c.args.number d c.args.kept.now _ _ c.back.result
    (on_err_with c.back.result c.back.ensures.err (λ failed. subst (AppendsProperPrefix _ _) (it.2 n c.args.number) failed)) c.back.ensures.output
