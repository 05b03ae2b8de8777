use Rattle.std.proofs.Common.{◌≡◌, ◌≤◌, ◌<◌, ◌+◌, ℕ, get_or, true, false}
use Rattle.sector_device.specs.Records.{is_done_sync}
use Rattle.sector_device.specs.declared.recorded.Recorded.TheVariants.{Sync}
use Rattle.sector_device.proofs.replay.calls_to_sync.Given as goal

abbrev pub invariant-loop-i : goal.invariant-loop-i
invariant-loop-i l = record {
  within : l.synced ≤ l.i;
  ends : (k : ℕ) → k + 1 ≡ l.synced → is_done_sync (get_or l.calls k (Sync true)) ≡ true;
  last : (k : ℕ) → l.synced ≤ k → k < l.i → is_done_sync (get_or l.calls k (Sync true)) ≡ false;
}
