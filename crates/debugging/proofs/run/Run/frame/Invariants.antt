use Rattle.std.proofs.Common.{◌≡◌, ◌≤◌, ◌-◌, [], length}
use Rattle.debugging.specs.Run.{most_sent}
use Rattle.debugging.proofs.Frames.{IsPlaying}
use Rattle.debugging.proofs.run.Run.frame.Given as goal

abbrev pub invariant-playing : goal.invariant-playing
invariant-playing l = record {
  playing : IsPlaying l.buttons l.fn.self l.sent.items l.frame;
  room : l.sent.capacity ≡ most_sent;
  kept : length l.sent.items ≤ l.sent.capacity;
  none : l.history.items ≡ [];
  size : l.history.capacity ≡ l.fn.self.debugger.size;
}

abbrev pub decreases-playing : goal.decreases-playing
decreases-playing l = 17562 - l.frame.passed
