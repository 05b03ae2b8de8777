use Rattle.std.proofs.Common.{ap}
use Rattle.memory_map.specs.LateTimer.{running, caught_up_at}
use Rattle.memory_map.proofs.LateTimers.{passed}
use Rattle.memory_map.proofs.late_timer.LateTimer.pass_all.Goals as goal

pub returns : goal.returns
returns c =
    ap (caught_up_at c.args.now)
    (passed c.args.cycles (running c.args.self.now) c.pass-requests.new.self c.pass-requests.result.bits c.pass-requests.ensures.state c.pass-requests.ensures.requests)
