use Rattle.std.proofs.Common.{◌≡◌, ◌≤◌, length, take}
use Rattle.std.specs.Prelude.{vec_capacity}
use Rattle.whole_lives.specs.Devices.{AreRounds, memories, reports_of, wholes_of}
use Rattle.whole_lives.proofs.lives.live_rounds.Given as goal

-- the rounds so far led to these devices, and there is room for the other ends
abbrev pub invariant-loop-round : goal.invariant-loop-round
invariant-loop-round g l = record {
  rounds : AreRounds g.P.Player.asks g.P.Player.obeys g.P.Player.refuses l.cartridge (take l.round-index l.rounds) (memories l.initial.left) (memories l.left) (reports_of l.ends.items) (wholes_of l.ends.items);
  size : length l.ends.items ≡ l.round-index;
  room : length l.rounds ≤ vec_capacity l.ends;
}
