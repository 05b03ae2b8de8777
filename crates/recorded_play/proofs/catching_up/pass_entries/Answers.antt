use Rattle.std.proofs.Common.{[], ap}
use Rattle.std.proofs.lemmas.List.{take_all}
use Rattle.session.specs.Accessors.{device_of}
use Rattle.recorded_play.specs.CatchingUp.{given_by_all}
use Rattle.recorded_play.proofs.Passing.{passes_nothing, passes_by, passes_entry, fails_entry}
use Rattle.recorded_play.proofs.catching_up.pass_entries.Goals as goal

pub loop-entry-init : goal.loop-entry-init
loop-entry-init g c = record {
  whole = c.requires.whole;
  few = c.requires.few;
  passes = passes_nothing (g.met.D.SectorDevice.only_now (device_of c.args.session.now));
}

pub loop-entry-preserved : goal.loop-entry-preserved
loop-entry-preserved g c = record {
  whole = c.in-Ok.ensures.whole.0;
  few = c.in-Ok.ensures.whole.1;
  passes = passes_entry c.args.entries.now c.loop-entry.entry-index (record { code = [] }) c.loop-entry-test.true c.loop-entry.invariant.passes c.in-Ok.ensures.passes;
}

pub returns-clause-passes : goal.returns-clause-passes
returns-clause-passes g c =
    passes_by (ap given_by_all (take_all c.loop-entry.entry-index c.args.entries.now c.loop-entry-test.false)) c.loop-entry.invariant.passes

pub returns-in-Err-clause-fails : goal.returns-in-Err-clause-fails
returns-in-Err-clause-fails g c = fails_entry c.args.entries.now c.loop-entry.entry-index (record { code = [] }) c.loop-entry-test.true c.loop-entry.invariant.passes c.in-Err.ensures.fails
