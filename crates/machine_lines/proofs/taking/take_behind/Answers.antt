use Rattle.std.proofs.Common.{◌≡◌, ◌≢◌, true, sym, ◌∙◌}
use Rattle.cartridge.specs.Header.{ram_length_of}
use Rattle.snapshot.specs.Encoding.{snapshot_length}
use Rattle.machine_lines.specs.Taking.{is_same}
use Rattle.machine_lines.proofs.Behind.{dropped_behind, own_behind, same_header}
use Rattle.machine_lines.proofs.taking.take_behind.Goals as goal
use Rattle.machine_lines.proofs.taking.take_behind.Goals.{else-is_same-via-then-is_same+else-rest-snapshot, else-is_same-via-else-is_same}

pub returns-then-rest-snapshot-clause-taken : goal.returns-then-rest-snapshot-clause-taken
returns-then-rest-snapshot-clause-taken g c =
    let header = same_header c.read_header-named.result c.args.cartridge.now c.args.header.now (sym c.is_same.ensures ∙ c.if-is_same.true) c.read_header-named.ensures in
    rw c.unless_fewer.ensures
    (own_behind c.args.cartridge.now c.args.header.now c.args.rest c.take_bytes.new.bytes _ c.take_bytes.new.unread.items (g.R.LineInput.remaining c.take_bytes.new.input) c.requires.header c.take_bytes.result header
    (c.if-rest-snapshot.true ∙ sym c.take_bytes.ensures.room) c.take_bytes.ensures.taken c.take_bytes.ensures.none)

pub returns-clause-taken : goal.returns-clause-taken
returns-clause-taken g c =
    let other : is_same c.read_header-named.result ≡ true → c.args.rest ≢ snapshot_length (ram_length_of c.args.cartridge.now) = elim c.else-is_same.branch [
      | else-is_same-via-then-is_same+else-rest-snapshot w ↦ λ same e. w.if-rest-snapshot.false (e ∙ sym c.requires.room)
      | else-is_same-via-else-is_same w ↦ λ same e. absurd (cc (same, c.is_same.ensures, w.if-is_same.false))
    ] in
    rw (c.unless_fewer-2.ensures, c.refused_by.ensures)
    (dropped_behind c.args.cartridge.now c.args.header.now c.args.rest c.args.snapshot.now _ c.skip_bytes.new.unread.items (g.R.LineInput.remaining c.skip_bytes.new.input) c.requires.header c.skip_bytes.result
    c.read_header-named.result c.read_header-named.ensures other c.skip_bytes.ensures.skipped c.skip_bytes.ensures.none)
