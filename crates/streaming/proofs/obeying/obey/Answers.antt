use Rattle.std.proofs.Common.{◌≡◌, List, ℕ, Option, ◌∷◌, [], ◌∙◌, inl, inr, refl, sym, ap, subst}
use Rattle.std.proofs.KnownBytes.{Consumes-nil}
use Rattle.input_lines.specs.Reading.{left_of}
use Rattle.machine_lines.specs.KeptStates.{KeptMachine}
use Rattle.machine_lines.specs.Slots.{AreKept}
use Rattle.playing.specs.declared.playable.Playable.{Ghosts}
use Rattle.streaming.specs.Orders.{Does, IsOwn, kept_behind, needs_states}
use Rattle.streaming.specs.Obeying.{AdvancesByDeeds, StopsByDeeds}
use Rattle.streaming.specs.Steps.{IsObeyed, IsRefused}
use Rattle.streaming.specs.declared.order.Order.{Order}
use Rattle.streaming.specs.declared.order.Order.TheVariants.{Make, Look, Keep}
use Rattle.streaming.proofs.obeying.obey.Goals as goal

-- an order that leaves the machine to its moves, for which no bytes are taken
module _ {G F : Type 0} {game : Ghosts G F} {old new : G} {before since there unread : Option (List ℕ)} {rom : List ℕ} {machines : List KeptMachine} {order : Order} (does : Order) (is : order ≡ does) (own : IsOwn does) where
  obeyed : {states : List (List ℕ)} → AdvancesByDeeds game old new before since (Does does ∷ []) → AreKept rom states (kept_behind (game.machine old) machines (Does does))
      → IsObeyed game old new before since (record { before = there; since = there; unread = unread }) rom machines order states
  obeyed obeys kept = record {
    bytes = [];
    deed = Does does;
    order_is = sym is;
    done = (refl, own);
    took = Consumes-nil there;
    obeys = obeys;
    kept_is = kept;
  }

  refused : {has_failed : Type 0} {why : F} → StopsByDeeds game old new before since has_failed (Does does ∷ []) why → IsRefused game old new before since (record { before = there; since = there; unread = unread }) rom machines order has_failed why
  refused stops = record {
    bytes = [];
    deed = Does does;
    order_is = sym is;
    asked = inl (refl, own);
    took = Consumes-nil there;
    stops = stops;
  }

pub obey_move-requires-clause-takes : goal.obey_move-requires-clause-takes
obey_move-requires-clause-takes g c = λ is. c.requires.takes (ap needs_states (c.in-Make.is ∙ ap Make is))

pub returns-in-Ok-true-clause-step : goal.returns-in-Ok-true-clause-step
returns-in-Ok-true-clause-step g c machines kept = obeyed (Make c.in-Make.a_move) c.in-Make.is tt (c.in-Ok-true.ensures.obeyed c.in-Ok-true.field-0-test) kept

pub returns-in-Ok-false-clause-step : goal.returns-in-Ok-false-clause-step
returns-in-Ok-false-clause-step g c machines kept =
    let nothing = c.in-Ok-false.ensures.nothing c.in-Ok-false.field-0-test in
    (record { same = nothing.1; quiet = ap g.W.Output.contents nothing.2 }, inl (c.in-Make.is ∙ ap Make nothing.0), Consumes-nil (left_of c.args.unread.now.items (g.R.LineInput.remaining c.args.input.now)))

pub returns-in-Err-clause-refused : goal.returns-in-Err-clause-refused
returns-in-Err-clause-refused g c machines kept = refused (Make c.in-Make.a_move) c.in-Make.is tt c.in-Err.ensures.stopped

pub returns-in-Ok-clause-step : goal.returns-in-Ok-clause-step
returns-in-Ok-clause-step g c machines kept = obeyed (Look c.in-Look.look) c.in-Look.is tt c.in-Ok.ensures.obeyed kept

pub returns-in-Err-obey_look-clause-refused : goal.returns-in-Err-obey_look-clause-refused
returns-in-Err-obey_look-clause-refused g c machines kept = refused (Look c.in-Look.look) c.in-Look.is tt c.in-Err-obey_look.ensures.stopped

pub returns-in-Ok-true-obey_keep-clause-step : goal.returns-in-Ok-true-obey_keep-clause-step
returns-in-Ok-true-obey_keep-clause-step g c machines kept =
    let of = c.requires.of in
    obeyed (Keep c.in-Keep.slot) c.in-Keep.is tt (c.in-Ok-true-obey_keep.ensures.obeyed c.in-Ok-true-obey_keep.field-0-test)
    (subst (λ rom. AreKept rom c.obey_keep.new.kept (record { number = c.in-Keep.slot; machine = g.G.Playable.machine c.args.game.now } ∷ machines)) of
    (c.in-Ok-true-obey_keep.ensures.kept machines (subst (λ rom. AreKept rom c.args.room.now.kept machines) (sym of) kept) c.in-Ok-true-obey_keep.field-0-test))

pub returns-in-Ok-false-obey_keep-clause-step : goal.returns-in-Ok-false-obey_keep-clause-step
returns-in-Ok-false-obey_keep-clause-step g c machines kept =
    let nothing = c.in-Ok-false-obey_keep.ensures.nothing machines (subst (λ rom. AreKept rom c.args.room.now.kept machines) (sym c.requires.of) kept) c.in-Ok-false-obey_keep.field-0-test in
    (record { same = c.obey_keep.ensures.same; quiet = ap g.W.Output.contents nothing.0 }, inr (c.in-Keep.slot, c.in-Keep.is, nothing.1), Consumes-nil (left_of c.args.unread.now.items (g.R.LineInput.remaining c.args.input.now)))

pub returns-in-Err-obey_keep-clause-refused : goal.returns-in-Err-obey_keep-clause-refused
returns-in-Err-obey_keep-clause-refused g c machines kept = refused (Keep c.in-Keep.slot) c.in-Keep.is tt c.in-Err-obey_keep.ensures.stopped

pub returns-in-Back-clause-step : goal.returns-in-Back-clause-step
returns-in-Back-clause-step g c machines kept =
    rw c.in-Back.is (c.obey_back.ensures.step machines kept (left_of c.args.unread.now.items (g.R.LineInput.remaining c.args.input.now)) (g.R.LineInput.remaining c.args.input.now))

pub returns-in-Back-clause-refused : goal.returns-in-Back-clause-refused
returns-in-Back-clause-refused g c machines kept =
    rw c.in-Back.is (c.obey_back.ensures.refused machines kept (left_of c.args.unread.now.items (g.R.LineInput.remaining c.args.input.now)) (g.R.LineInput.remaining c.args.input.now))

pub returns-in-Restore-clause-step : goal.returns-in-Restore-clause-step
returns-in-Restore-clause-step g c machines kept = rw c.in-Restore.is (c.obey_restore.ensures.step machines c.args.room.now.kept kept)
