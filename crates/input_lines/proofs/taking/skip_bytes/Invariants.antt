use Rattle.std.proofs.Common.{◌≡◌, ◌+◌, ℕ, List, length}
use Rattle.std.specs.Io.KnownBytes.{Consumes}
use Rattle.input_lines.specs.Reading.{left_of}
use Rattle.input_lines.proofs.taking.skip_bytes.Given as goal

-- so many bytes are dropped
abbrev pub invariant-skipping : goal.invariant-skipping
invariant-skipping g l = record {
  room : length l.bytes ≡ 1024;
  skipped : List ℕ;
  count : length skipped + l.left ≡ l.fn.count;
  took : Consumes (left_of l.fn.unread.items (g.R.LineInput.remaining l.fn.input)) (left_of l.unread.items (g.R.LineInput.remaining l.input)) skipped;
}

abbrev pub decreases-skipping : goal.decreases-skipping
decreases-skipping g l = l.left
