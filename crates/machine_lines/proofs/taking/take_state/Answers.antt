use Rattle.std.proofs.Common.{arith}
use Rattle.machine_lines.proofs.Behind.{dropped_short, with_header}
use Rattle.machine_lines.proofs.taking.take_state.Goals as goal

pub returns-then-size-lt-HEADER_LENGTH-clause-taken : goal.returns-then-size-lt-HEADER_LENGTH-clause-taken
returns-then-size-lt-HEADER_LENGTH-clause-taken g c =
    rw c.unless_fewer.ensures
    (dropped_short c.args.cartridge.now c.args.size c.args.snapshot.now _ c.skip_bytes.new.unread.items (g.R.LineInput.remaining c.skip_bytes.new.input) (omega (arith, c.if-size-lt-HEADER_LENGTH.true)) c.skip_bytes.result
    c.skip_bytes.ensures.skipped c.skip_bytes.ensures.none)

pub returns-in-All-clause-taken : goal.returns-in-All-clause-taken
returns-in-All-clause-taken g c =
    with_header c.args.cartridge.now c.take_bytes.new.bytes c.args.size c.take_behind.new.snapshot _ _ _ (g.R.LineInput.remaining c.take_behind.new.input) c.take_bytes.ensures.room (omega (arith, c.if-size-lt-HEADER_LENGTH.false))
    c.in-All.ensures.taken c.take_behind.result c.take_behind.ensures.taken
