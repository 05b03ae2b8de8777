use Rattle.std.proofs.Common.{◌≡◌, ◌+◌, ◌++◌, length, List, ℕ, ap, inl, inr, refl, sym, arith, length-append}
use Rattle.snapshot.specs.Reading.{machine_in}
use Rattle.state_header.specs.States.{header_of}
use Rattle.state_header.proofs.States.{header_long, own_legal, own_named, own_snapshot, rest_is}
use Rattle.streaming.specs.Orders.{GoesOnWith}
use Rattle.streaming.specs.declared.order.Order.TheVariants.{Restore}
use Rattle.streaming.proofs.obeying.obey_restore.Goals as goal

-- a state of so many bytes, and its snapshot
long : (rom snapshot : List ℕ) (size : ℕ) → size ≡ 40 + length snapshot → length (header_of rom ++ snapshot) ≡ size
long rom snapshot size is = omega (arith, length-append (header_of rom) snapshot, header_long rom, is)

pub returns-in-Ok-true-clause-step : goal.returns-in-Ok-true-clause-step
returns-in-Ok-true-clause-step g c machines states kept =
    let rom = c.args.cartridge.now in
    let snapshot = c.take_state.new.snapshot in
    record {
      bytes = header_of rom ++ snapshot;
      deed = GoesOnWith (Restore c.args.size) (machine_in rom snapshot);
      order_is = refl;
      done = (long rom snapshot c.args.size c.in-Snapshot.ensures.taken.0, own_legal rom snapshot (c.in-Ok-true.ensures.legal c.in-Ok-true.field-0-test), sym (ap (machine_in rom) (rest_is (header_of rom) snapshot (header_long rom))));
      took = c.in-Snapshot.ensures.taken.1;
      obeys = c.in-Ok-true.ensures.obeyed c.in-Ok-true.field-0-test;
      kept_is = kept;
    }

pub returns-in-Ok-false-clause-step : goal.returns-in-Ok-false-clause-step
returns-in-Ok-false-clause-step g c machines states kept =
    let rom = c.args.cartridge.now in
    let snapshot = c.take_state.new.snapshot in
    let nothing = c.in-Ok-false.ensures.nothing c.in-Ok-false.field-0-test in (
      record { same = nothing.0; quiet = ap g.W.Output.contents nothing.1 },
      (
        c.args.size,
        refl,
        inl (record {
          bytes = header_of rom ++ snapshot;
          long = long rom snapshot c.args.size c.in-Snapshot.ensures.taken.0;
          are = (λ legal. nothing.2 (own_snapshot rom snapshot legal), own_named rom snapshot);
          took = c.in-Snapshot.ensures.taken.1;
        }),
      ),
    )

pub returns-in-Err-clause-refused : goal.returns-in-Err-clause-refused
returns-in-Err-clause-refused g c machines =
    let rom = c.args.cartridge.now in
    let snapshot = c.take_state.new.snapshot in
    record {
      bytes = header_of rom ++ snapshot;
      deed = GoesOnWith (Restore c.args.size) (machine_in rom snapshot);
      order_is = refl;
      asked = inr (c.args.size, refl, long rom snapshot c.args.size c.in-Snapshot.ensures.taken.0, ap (λ s. GoesOnWith (Restore c.args.size) (machine_in rom s)) (sym (rest_is (header_of rom) snapshot (header_long rom))));
      took = c.in-Snapshot.ensures.taken.1;
      stops = c.in-Err.ensures.stopped;
    }
