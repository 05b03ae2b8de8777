use Rattle.std.proofs.Common.{◌≡◌, ◌≤◌, ◌<◌, ◌-◌, [], length, take, drop}
use Rattle.std.specs.Io.KnownBytes.{Consumes}
use Rattle.input_lines.specs.Reading.{left_of}
use Rattle.input_lines.proofs.taking.take_bytes.Given as goal

-- so many bytes were taken, and more are read only where none is unread
abbrev pub invariant-reading : goal.invariant-reading
invariant-reading g l = record {
  filled : l.filled ≤ length l.bytes;
  room : length l.bytes ≡ length l.fn.bytes;
  unread : l.unread.items ≡ drop (length l.fn.bytes) l.fn.unread.items;
  none : l.filled < length l.bytes → l.unread.items ≡ [];
  took : Consumes (left_of l.fn.unread.items (g.R.LineInput.remaining l.fn.input)) (left_of l.unread.items (g.R.LineInput.remaining l.input)) (take l.filled l.bytes);
}

abbrev pub decreases-reading : goal.decreases-reading
decreases-reading g l = length l.bytes - l.filled
