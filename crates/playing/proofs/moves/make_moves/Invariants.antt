use Rattle.std.proofs.Common.{◌≡◌, ◌<◌, take}
use Rattle.playing.specs.Making.{AdvancesByMoves}
use Rattle.playing.proofs.moves.make_moves.Given as goal

-- the moves so far were made
abbrev pub invariant-loop-next : goal.invariant-loop-next
invariant-loop-next g l = record {
  made : AdvancesByMoves g.G.Playable l.initial.game l.game (g.R.Report.contents l.initial.report) (g.R.Report.contents l.report) (take l.next-index l.moves);
  of : g.G.Playable.rom l.game ≡ l.cartridge;
  whole : g.G.Playable.whole l.game;
  few : g.G.Playable.unsaved l.game < 3200;
}
