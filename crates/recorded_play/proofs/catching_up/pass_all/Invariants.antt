use Rattle.std.proofs.Common.{◌≡◌, ◌<◌, length, false}
use Rattle.recording.specs.Accessors.{device_of as device_of_recording, is_broken as is_broken_recording, used_of}
use Rattle.session.specs.Accessors.{pending_of, is_broken}
use Rattle.playing.specs.Going.{place}
use Rattle.recorded_play.specs.CatchingUp.{AdvancesOverRecorded}
use Rattle.replaying.proofs.Sectors.{inputs_up_to}
use Rattle.recorded_play.proofs.catching_up.pass_all.Given as goal

-- the sectors so far were passed over
abbrev pub invariant-loop-number : goal.invariant-loop-number
invariant-loop-number g l =
    let first = l.initial.session in
    let now = l.session in
    let old = g.E.SectorDevice.disk (device_of_recording l.initial.recording) in
    record {
      whole : is_broken now ≡ false;
      opened : is_broken_recording l.recording ≡ false;
      few : length (pending_of now) < 3200;
      same : used_of l.recording ≡ used_of l.initial.recording;
      passes : AdvancesOverRecorded (place first) (place now) old (g.E.SectorDevice.disk (device_of_recording l.recording))
          l.skip l.left (inputs_up_to l.number old.sectors);
    }
