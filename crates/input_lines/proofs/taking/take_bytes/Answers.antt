use Rattle.std.proofs.Common.{rules, ◌≡◌, ◌≤◌, length, take, drop, ℕ, List, [], ◌++◌, sym, ◌∙◌, subst, arith, min, append-nil}
use Rattle.std.specs.Io.KnownBytes.{Consumes}
use Rattle.input_lines.specs.Reading.{left_of}
use Rattle.input_lines.proofs.Bytes.{put_part, read_more_of, read_none_of, at_end_of, first_unread, first_none, first_took}
use Rattle.input_lines.proofs.taking.take_bytes.Goals as goal

pub reading-init : goal.reading-init
reading-init g c =
    let unread = c.args.unread.now.items in
    let n = c.min-there.result in
    let is : n ≡ min (length unread) (length c.args.bytes.now) = search rules in
    let few : n ≤ length unread = omega (arith, is) in
    let rest : c.drop_first.new.unread.items ≡ drop n unread = c.drop_first.ensures in
    record {
      filled = search rules;
      room = search rules;
      unread = rest ∙ first_unread unread c.args.bytes.now n is;
      none = λ less. rest ∙ first_none unread c.args.bytes.now n is (search rules);
      took =
          subst (λ (l : List ℕ). Consumes (left_of unread (g.R.LineInput.remaining c.args.input.now)) (left_of l (g.R.LineInput.remaining c.args.input.now)) (take n (c.copy_from_slice.new.self ++ drop n c.args.bytes.now))) (sym rest)
          (first_took unread c.copy_from_slice.new.self (drop n c.args.bytes.now) n (g.R.LineInput.remaining c.args.input.now) few (search rules));
    }

pub returns-in-Ok-eq0-clause-taken : goal.returns-in-Ok-eq0-clause-taken
returns-in-Ok-eq0-clause-taken g c =
    let so_far = c.reading.invariant in
    let none : c.drop_first.new.unread.items ≡ [] = so_far.none c.reading-test.true in
    let took = read_more_of _ (g.R.LineInput.remaining c.reading.input) (g.R.LineInput.remaining c.read.new.self) c.drop_first.new.unread.items (take c.reading.filled c.reading.bytes) [] none so_far.took (search rules) in (
      take c.reading.filled c.reading.bytes,
      search rules,
      subst (Consumes (left_of c.args.unread.now.items (g.R.LineInput.remaining c.args.input.now)) (left_of c.drop_first.new.unread.items (g.R.LineInput.remaining c.read.new.self))) (append-nil (take c.reading.filled c.reading.bytes)) took,
      at_end_of (g.R.LineInput.remaining c.read.new.self) c.drop_first.new.unread.items none (search rules),
    )

pub reading-preserved : goal.reading-preserved
reading-preserved g c =
    let so_far = c.reading.invariant in
    let none : c.drop_first.new.unread.items ≡ [] = so_far.none c.reading-test.true in
    let few : c.in-Ok.count ≤ length c.read.new.buf = search rules in
    record {
      filled = search rules;
      room = search rules;
      unread = so_far.unread;
      none = λ less. none;
      took =
          subst (Consumes (left_of c.args.unread.now.items (g.R.LineInput.remaining c.args.input.now)) (left_of c.drop_first.new.unread.items (g.R.LineInput.remaining c.read.new.self)))
          (sym (put_part c.reading.filled c.in-Ok.count c.reading.bytes c.read.new.buf so_far.filled few))
          (read_more_of _ (g.R.LineInput.remaining c.reading.input) (g.R.LineInput.remaining c.read.new.self) c.drop_first.new.unread.items (take c.reading.filled c.reading.bytes) (take c.in-Ok.count c.read.new.buf) none so_far.took (search rules));
    }

pub returns-in-Err-clause-taken : goal.returns-in-Err-clause-taken
returns-in-Err-clause-taken g c =
    let so_far = c.reading.invariant in
    let none : c.drop_first.new.unread.items ≡ [] = so_far.none c.reading-test.true in (
      take c.reading.filled c.reading.bytes,
      search rules,
      read_none_of _ (g.R.LineInput.remaining c.reading.input) (g.R.LineInput.remaining c.read.new.self) c.drop_first.new.unread.items (take c.reading.filled c.reading.bytes) none so_far.took c.in-Err.ensures.bytes,
    )
