use Rattle.std.proofs.Common.{arith}
use Rattle.replaying.proofs.Replayed.{played_nothing, played_seconds, replayed_no_seconds, replayed_seconds}
use Rattle.replaying.proofs.replay.replay_seconds.Goals as goal

pub returns-then-left-eq0 : goal.returns-then-left-eq0
returns-then-left-eq0 c = record { played = played_nothing c.args.machine.now; replayed = replayed_no_seconds c.args.machine.now c.args.left c.args.seconds c.if-left-eq0.true }

pub returns : goal.returns
returns c = record {
  played = played_seconds c.args.machine.now c.apply.new.self c.args.seconds c.apply.ensures;
  replayed = replayed_seconds c.args.machine.now c.apply.new.self c.args.left c.args.seconds (omega arith) (omega arith) c.apply.ensures;
}
