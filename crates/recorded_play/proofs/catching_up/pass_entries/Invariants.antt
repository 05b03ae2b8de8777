use Rattle.std.proofs.Common.{take}
use Rattle.recorded_play.specs.CatchingUp.{given_by_all}
use Rattle.recorded_play.proofs.Passing.{HasPassed}
use Rattle.recorded_play.proofs.catching_up.pass_entries.Given as goal

abbrev pub invariant-loop-entry : goal.invariant-loop-entry
invariant-loop-entry g l = HasPassed l.initial.session l.session l.skip l.left (given_by_all (take l.entry-index l.entries))
