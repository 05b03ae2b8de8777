use Rattle.std.proofs.Common.{rules, ◌≤◌, ◌+◌, List, ℕ, length, subst, sym}
use Rattle.log_format.specs.Sizes.{log_sectors_per_area}
use Rattle.sector_log.proofs.HandedOut.{stored_still}
use Rattle.sector_log.proofs.store.Store.next_call.Goals as goal

pub invariant_of-self : goal.invariant_of-self
invariant_of-self g c =
    let self = c.args.self.now in
    let handed = c.next_call.ensures.disk in
    record {
      placed = subst (λ (s : List (List ℕ)). self.start + log_sectors_per_area ≤ length s) (sym handed.sectors) self.placed;
      range = self.range;
      reserved = self.reserved;
      kept = self.kept;
      count = self.count;
      stored = λ whole honest. stored_still handed (self.stored whole (handed.honest.0 honest));
    }
