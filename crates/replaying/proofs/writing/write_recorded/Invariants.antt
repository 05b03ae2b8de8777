use Rattle.std.proofs.Common.{◌≡◌, false, Ok}
use Rattle.sector_device.specs.DiskState.{HasAnswered}
use Rattle.sector_device.specs.Looking.{LooksOnly}
use Rattle.recording.specs.Accessors.{device_of, is_broken, full_of, tail_of, count_of}
use Rattle.replaying.specs.Lines.{HasWritten}
use Rattle.replaying.specs.Writing.{faults_after}
use Rattle.replaying.proofs.Sectors.{inputs_up_to}
use Rattle.replaying.proofs.writing.write_recorded.Given as goal

-- the lines of the sectors so far were written, but for the last run
abbrev pub invariant-loop-index : goal.invariant-loop-index
invariant-loop-index g l =
    let first = l.initial.recording in
    let now = l.recording in
    record {
      whole : is_broken now ≡ false;
      same : (full_of now ≡ full_of first) × (tail_of now ≡ tail_of first) × (count_of now ≡ count_of first);
      answered : HasAnswered {T = Unit {0}} faults_after (g.D.SectorDevice.disk (device_of first)) (g.D.SectorDevice.disk (device_of now)) (Ok tt);
      looked : (g.D.SectorDevice.disk (device_of first)).honest → LooksOnly (g.D.SectorDevice.disk (device_of first)) (g.D.SectorDevice.disk (device_of now));
      written : (g.D.SectorDevice.disk (device_of first)).honest →
          HasWritten l.initial.run l.run (inputs_up_to l.index (g.D.SectorDevice.disk (device_of first)).sectors) (g.W.Output.contents l.initial.out) (g.W.Output.contents l.out);
    }
