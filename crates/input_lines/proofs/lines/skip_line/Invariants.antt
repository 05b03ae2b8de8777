use Rattle.std.proofs.Common.{◌≡◌, ◌<◌, ℕ, List, [], length}
use Rattle.std.specs.Io.KnownBytes.{Consumes}
use Rattle.input_lines.specs.Newlines.{HasNoNewline}
use Rattle.input_lines.specs.Reading.{left_of}
use Rattle.input_lines.proofs.lines.skip_line.Given as goal

-- what was dropped so far is one line, and too long
abbrev pub invariant-skipping : goal.invariant-skipping
invariant-skipping g l = record {
  skipped : List ℕ;
  one : HasNoNewline skipped;
  long : 512 < length skipped;
  none : l.unread.items ≡ [];
  read : Consumes (left_of l.fn.unread.items (g.R.LineInput.remaining l.fn.input)) (left_of l.unread.items (g.R.LineInput.remaining l.input)) skipped;
}

abbrev pub decreases-skipping : goal.decreases-skipping
decreases-skipping g l = g.R.LineInput.reads_left l.input
