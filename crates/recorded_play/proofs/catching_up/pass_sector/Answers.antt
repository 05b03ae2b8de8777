use Rattle.std.proofs.Common.{ap, ◌∙◌, drop, refl, arith}
use Rattle.sector_device.specs.DiskState.{sector_at}
use Rattle.recording.specs.Format.{entries_at}
use Rattle.recording.specs.Accessors.{device_of as device_of_recording, is_broken as is_broken_recording}
use Rattle.session.specs.Accessors.{device_of, acknowledged_of, machine_of, pending_of}
use Rattle.session.proofs.Answering.{answered_error, answered_refusal, answered_value}
use Rattle.playing.proofs.PlayLaws.{stopped_here, stopped_more}
use Rattle.replaying.proofs.Looking.{looks_only}
use Rattle.recorded_play.specs.CatchingUp.{given_by_all}
use Rattle.recorded_play.proofs.Passing.{fails_giving, read_fails}
use Rattle.recorded_play.proofs.catching_up.pass_sector.Goals as goal

pub returns-in-Err-clause-fails : goal.returns-in-Err-clause-fails
returns-in-Err-clause-fails g c =
    let was = c.args.session.now in
    record {
      stopped = λ honest rom from given played.
          stopped_more rom _ _ _ from given _ (stopped_here rom (g.D.SectorDevice.disk (device_of was)) (acknowledged_of was) (pending_of was) (machine_of was) from given played (g.met.D.SectorDevice.only_now (device_of was)));
      cause = λ honest. read_fails c.in-Err.why (is_broken_recording c.args.recording.now) c.requires.open c.in-Err.ensures.cause;
      kind = tt;
      looks = λ honest. looks_only (c.read_sector.ensures.looked honest);
      later = omega arith;
      save_calls = answered_refusal (λ n. refl);
      recording_calls = answered_error c.in-Err.ensures.answered (λ n. refl);
    }

pub returns-in-Ok-clause-passes : goal.returns-in-Ok-clause-passes
returns-in-Ok-clause-passes g c = record {
  passed = given_by_all c.entries.result.now;
  passes = c.in-Ok.ensures.passes;
  passed_is = λ honest. ap given_by_all (c.entries.ensures ∙ c.in_default.ensures.page honest);
  looks = λ honest. looks_only (c.read_sector.ensures.looked honest);
  calls = answered_value c.in_default.ensures.answered;
}

pub returns-in-Err-pass_entries-clause-fails : goal.returns-in-Err-pass_entries-clause-fails
returns-in-Err-pass_entries-clause-fails g c =
    let old = g.E.SectorDevice.disk (device_of_recording c.args.recording.now) in
    fails_giving c.args.skip (given_by_all (entries_at c.args.number (sector_at old.sectors c.args.number)))
    (λ honest. ap (λ entries. drop c.args.skip (given_by_all entries)) (c.entries.ensures ∙ c.in_default.ensures.page honest)) (λ honest. looks_only (c.read_sector.ensures.looked honest)) c.in_default.ensures.answered c.in-Err-pass_entries.ensures.fails
