use Rattle.std.proofs.Common.{◌≡◌, ◌<◌, ◌+◌, ◌*◌, ℕ, []}
use Rattle.std.specs.Prelude.{slice_range}
use Rattle.sector_device.specs.DiskState.{sector_at}
use Rattle.embedding.specs.Calls.{image_writes}
use Rattle.embedding.specs.HostDevices.{count_of, handed_of, waiting_of}
use Rattle.embedding.proofs.game.fill_from.Given as goal

abbrev pub invariant-loop-at : goal.invariant-loop-at
invariant-loop-at l = record {
  count : count_of l.device ≡ count_of l.initial.device;
  end : l.at-end ≡ count_of l.initial.device;
  handed : handed_of l.device ≡ image_writes l.image l.at;
  waiting : waiting_of l.device ≡ [];
  done : (k : ℕ) → k < l.at → sector_at l.device.sectors.items k ≡ slice_range l.image (512 * k) (512 * k + 512);
}
