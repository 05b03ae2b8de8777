use Rattle.std.proofs.Common.{◌++◌, sym, ◌∙◌, subst}
use Rattle.std.specs.Io.KnownBytes.{Consumes}
use Rattle.std.proofs.KnownBytes.{Consumes-nil}
use Rattle.input_lines.specs.Reading.{left_of}
use Rattle.input_lines.proofs.Newlines.{found_by_length, nowhere_by_length, no_newline_at_all}
use Rattle.input_lines.proofs.KnownLeft.{all_taken}
use Rattle.input_lines.proofs.NextLines.{one_still, longer, skips_more, skips_to_newline, skips_to_end, skips_failed_there}
use Rattle.input_lines.proofs.lines.skip_line.Goals as goal

pub skipping-init : goal.skipping-init
skipping-init g c =
    let known = g.R.LineInput.remaining c.args.input.now in
    let unread = c.args.unread.now.items in
    let old = left_of unread known in
    record {
      skipped = unread;
      one = no_newline_at_all unread c.requires.one;
      long = c.requires.long;
      none = c.clear.ensures;
      read = subst (λ l. Consumes old (left_of l known) unread) (sym c.clear.ensures) (all_taken old unread known (Consumes-nil old));
    }

pub skipping-preserved : goal.skipping-preserved
skipping-preserved g c =
    let so_far = c.skipping.invariant in
    let old = left_of c.args.unread.now.items (g.R.LineInput.remaining c.args.input.now) in
    let there = left_of c.skipping.unread.items (g.R.LineInput.remaining c.skipping.input) in
    let unread = c.read_more.new.unread.items in
    let since = g.R.LineInput.remaining c.read_more.new.input in
    let all = nowhere_by_length unread c.as_slice.result.now c.line_length.result c.len.result c.as_slice.ensures.value c.line_length.ensures c.len.ensures.value c.if-line_length-len.false in
    record {
      skipped = so_far.skipped ++ unread;
      one = one_still so_far.skipped unread so_far.one (no_newline_at_all unread all);
      long = longer so_far.skipped unread so_far.long;
      none = c.clear-in-Bytes.ensures;
      read = subst (λ l. Consumes old (left_of l since) (so_far.skipped ++ unread)) (sym c.clear-in-Bytes.ensures) (skips_more old there so_far.skipped unread since so_far.read c.in-Bytes.ensures.left);
    }

pub returns-then-line_length-len-clause-line : goal.returns-then-line_length-len-clause-line
returns-then-line_length-len-clause-line g c =
    let so_far = c.skipping.invariant in
    let unread = c.read_more.new.unread.items in
    let found = found_by_length unread c.as_slice.result.now c.line_length.result c.len.result c.as_slice.ensures.value c.line_length.ensures c.len.ensures.value c.if-line_length-len.true in
    skips_to_newline (left_of c.args.unread.now.items (g.R.LineInput.remaining c.args.input.now)) (left_of c.skipping.unread.items (g.R.LineInput.remaining c.skipping.input)) so_far.skipped unread c.take_line.new.unread.items
    (g.R.LineInput.remaining c.read_more.new.input) so_far.one so_far.long so_far.read c.in-Bytes.ensures.left found c.take_line.ensures.rest

pub returns-in-End-clause-line : goal.returns-in-End-clause-line
returns-in-End-clause-line g c =
    let so_far = c.skipping.invariant in
    skips_to_end (left_of c.args.unread.now.items (g.R.LineInput.remaining c.args.input.now)) (left_of c.skipping.unread.items (g.R.LineInput.remaining c.skipping.input)) so_far.skipped c.read_more.new.unread.items
    (g.R.LineInput.remaining c.read_more.new.input) so_far.one so_far.long so_far.read c.in-End.ensures.left (c.in-End.ensures.more.0 ∙ so_far.none) c.in-End.ensures.more.1

pub returns-in-Failed-clause-line : goal.returns-in-Failed-clause-line
returns-in-Failed-clause-line g c =
    let so_far = c.skipping.invariant in
    skips_failed_there (left_of c.args.unread.now.items (g.R.LineInput.remaining c.args.input.now)) (left_of c.skipping.unread.items (g.R.LineInput.remaining c.skipping.input)) so_far.skipped c.read_more.new.unread.items
    (g.R.LineInput.remaining c.read_more.new.input) so_far.one so_far.long so_far.read c.in-Failed.ensures.left (c.in-Failed.ensures.more ∙ so_far.none)
