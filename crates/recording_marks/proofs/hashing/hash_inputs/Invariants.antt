use Rattle.std.proofs.Common.{◌≡◌, false, Ok}
use Rattle.sector_device.specs.DiskState.{HasAnswered}
use Rattle.sector_device.specs.Looking.{LooksOnly}
use Rattle.input_entries.specs.Inputs.{inputs}
use Rattle.recording.specs.Calls.{faults_after}
use Rattle.recording.specs.Recorded.{entries_up_to}
use Rattle.recording.specs.Accessors.{count_of, device_of, is_broken, full_of, tail_of}
use Rattle.recording_marks.specs.Digests.{HasHashed}
use Rattle.recording_marks.proofs.hashing.hash_inputs.Given as goal

-- the inputs of the sectors so far were hashed, as far as they are wanted
abbrev pub invariant-loop-index : goal.invariant-loop-index
invariant-loop-index g l =
    let first = l.initial.recording in
    let now = l.recording in
    record {
      whole : is_broken now ≡ false;
      same : (full_of now ≡ full_of first) × (tail_of now ≡ tail_of first) × (count_of now ≡ count_of first);
      answered : HasAnswered {T = Unit {0}} faults_after (g.D.SectorDevice.disk (device_of first)) (g.D.SectorDevice.disk (device_of now)) (Ok tt);
      looked : (g.D.SectorDevice.disk (device_of first)).honest → LooksOnly (g.D.SectorDevice.disk (device_of first)) (g.D.SectorDevice.disk (device_of now));
      hashed : (g.D.SectorDevice.disk (device_of first)).honest →
          HasHashed l.initial.hasher l.hasher l.initial.left l.left (inputs (entries_up_to l.index (g.D.SectorDevice.disk (device_of first)).sectors));
    }
