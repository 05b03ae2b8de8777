use Rattle.std.proofs.Common.{◌≡◌, ◌<◌, length}
use Rattle.cartridge.specs.Header.{ram_length_of}
use Rattle.snapshot.specs.Encoding.{snapshot_length}
use Rattle.input_lines.specs.Reading.{left_of}
use Rattle.streaming.proofs.Lines.{SoFar}
use Rattle.streaming.proofs.obeying.obey_lines.Given as goal

-- the lines so far were right, and were obeyed
abbrev pub invariant-loop-number : goal.invariant-loop-number
invariant-loop-number g l = record {
  so_far :
      (of : g.G.Playable.rom l.initial.game ≡ l.cartridge) → SoFar g.G.Playable l.cartridge l.initial.game of (g.R.LineInput.remaining l.initial.input) (g.W.Output.contents l.initial.out)
      l.game l.number (left_of l.unread.items (g.R.LineInput.remaining l.input)) (g.W.Output.contents l.out) l.room.kept;
  room : length l.room.snapshot.items ≡ snapshot_length (ram_length_of l.cartridge);
  whole : g.G.Playable.whole l.game;
  few : g.G.Playable.unsaved l.game < 3200;
}
