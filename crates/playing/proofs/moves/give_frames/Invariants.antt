use Rattle.std.proofs.Common.{◌<◌, replicate}
use Rattle.machine.specs.Machine.{Frame}
use Rattle.playing.specs.Making.{AdvancesByInputs}
use Rattle.playing.proofs.moves.give_frames.Given as goal

-- the frames so far were given
abbrev pub invariant-loop-i : goal.invariant-loop-i
invariant-loop-i g l = record {
  made : AdvancesByInputs g.G.Playable l.initial.game l.game (g.R.Report.contents l.initial.report) (g.R.Report.contents l.report) (replicate l._i (Frame l.buttons));
  whole : g.G.Playable.whole l.game;
  few : g.G.Playable.unsaved l.game < 3200;
}
