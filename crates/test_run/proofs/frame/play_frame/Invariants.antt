use Rattle.std.proofs.Common.{◌≡◌, ◌-◌, List, ℕ}
use Rattle.std.specs.Io.KnownBytes.{Appends}
use Rattle.machine.specs.Watched.{begun_with, seen_in, sent_before}
use Rattle.test_run.specs.Told.{told_all}
use Rattle.test_run.proofs.frame.play_frame.Given as goal

-- these bytes were sent so far
abbrev pub invariant-playing : goal.invariant-playing
invariant-playing g l = record {
  bytes : List ℕ;
  run : seen_in (begun_with l.buttons l.fn.machine) ≡ sent_before bytes (seen_in l.frame);
  told : l.told ≡ told_all l.fn.told bytes;
  written : Appends (g.W.Output.contents l.fn.out) (g.W.Output.contents l.out) bytes;
}

abbrev pub decreases-playing : goal.decreases-playing
decreases-playing g l = 17556 - l.frame.passed
