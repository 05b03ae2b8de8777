use Rattle.std.proofs.Common.{◌≡◌, ◌+◌, ◌-◌, [], length}
use Rattle.std.specs.Io.KnownBytes.{Consumes}
use Rattle.input_lines.specs.Reading.{left_of, IsLineThere}
use Rattle.input_lines.proofs.filling.fill.Given as goal

-- no byte is lost, and nothing is read where a line is there at first
abbrev pub invariant-filling : goal.invariant-filling
invariant-filling g l =
    Consumes (left_of l.initial.unread.items (g.R.LineInput.remaining l.initial.input)) (left_of l.unread.items (g.R.LineInput.remaining l.input)) []
    × (IsLineThere l.initial.most l.initial.unread.items → (l.unread ≡ l.initial.unread) × (l.input ≡ l.initial.input))

abbrev pub decreases-filling : goal.decreases-filling
decreases-filling g l = l.initial.most + 1 - length l.unread.items
