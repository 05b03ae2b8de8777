use Rattle.std.proofs.Common.{◌∙◌, [], length, inl, refl, sym, ap, subst}
use Rattle.std.proofs.KnownBytes.{Consumes-nil}
use Rattle.std.proofs.lemmas.Bool.{eqb-true, eqb-false}
use Rattle.snapshot.specs.Reading.{machine_in}
use Rattle.machine_lines.specs.KeptStates.{kept_under}
use Rattle.machine_lines.specs.Slots.{IsKeptAs}
use Rattle.streaming.specs.Orders.{GoesOnWith}
use Rattle.streaming.specs.declared.order.Order.TheVariants.{Back}
use Rattle.streaming.proofs.KeptMachines.{none_empty, one_there}
use Rattle.streaming.proofs.obeying.obey_back.Goals as goal

pub returns-then-is_empty-clause-step : goal.returns-then-is_empty-clause-step
returns-then-is_empty-clause-step g c machines kept left unread =
    let rom = c.args.cartridge.now in
    let bytes = c.state-bytes.result.now in
    let here = subst (λ b. IsKeptAs rom b (kept_under c.args.slot machines)) (sym c.state-bytes.ensures) (kept c.args.slot c.requires.slot) in
    let none = none_empty rom bytes (kept_under c.args.slot machines) here (eqb-true _ _ (sym c.is_empty.ensures ∙ c.if-is_empty.true)) in
    (record { same = refl; quiet = refl }, (c.args.slot, refl, none), Consumes-nil left)

pub returns-in-Ok-true-clause-step : goal.returns-in-Ok-true-clause-step
returns-in-Ok-true-clause-step g c machines kept left unread =
    let rom = c.args.cartridge.now in
    let bytes = c.state-bytes.result.now in
    let here = subst (λ b. IsKeptAs rom b (kept_under c.args.slot machines)) (sym c.state-bytes.ensures) (kept c.args.slot c.requires.slot) in
    let one = one_there rom bytes (kept_under c.args.slot machines) here (λ e. eqb-false _ _ (sym c.is_empty.ensures ∙ c.if-is_empty.false) (ap length e)) in
    record {
      bytes = [];
      deed = GoesOnWith (Back c.args.slot) (machine_in rom bytes);
      order_is = refl;
      done = (refl, one.0);
      took = Consumes-nil left;
      obeys = c.in-Ok-true.ensures.obeyed c.in-Ok-true.field-0-test;
      kept_is = kept;
    }

pub returns-in-Ok-false-clause-step : goal.returns-in-Ok-false-clause-step
returns-in-Ok-false-clause-step g c machines kept left unread =
    let rom = c.args.cartridge.now in
    let bytes = c.state-bytes.result.now in
    let here = subst (λ b. IsKeptAs rom b (kept_under c.args.slot machines)) (sym c.state-bytes.ensures) (kept c.args.slot c.requires.slot) in
    let one = one_there rom bytes (kept_under c.args.slot machines) here (λ e. eqb-false _ _ (sym c.is_empty.ensures ∙ c.if-is_empty.false) (ap length e)) in
    absurd ((c.in-Ok-false.ensures.nothing c.in-Ok-false.field-0-test).2 one.1)

pub returns-in-Err-clause-refused : goal.returns-in-Err-clause-refused
returns-in-Err-clause-refused g c machines kept left unread =
    let rom = c.args.cartridge.now in
    let bytes = c.state-bytes.result.now in
    let here = subst (λ b. IsKeptAs rom b (kept_under c.args.slot machines)) (sym c.state-bytes.ensures) (kept c.args.slot c.requires.slot) in
    let one = one_there rom bytes (kept_under c.args.slot machines) here (λ e. eqb-false _ _ (sym c.is_empty.ensures ∙ c.if-is_empty.false) (ap length e)) in
    record {
      bytes = [];
      deed = GoesOnWith (Back c.args.slot) (machine_in rom bytes);
      order_is = refl;
      asked = inl (refl, one.0);
      took = Consumes-nil left;
      stops = c.in-Err.ensures.stopped;
    }
