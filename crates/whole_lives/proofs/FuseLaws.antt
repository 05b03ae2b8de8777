-- A round that a fuse ended was played up to there, and what the fuses say of the calls of a round.
use Rattle.std.proofs.Common.{◌≤◌, ◌+◌, inl, inr, ℕ, List, false, Option, Some, None, subst}
use Rattle.std.specs.Option.{option_map}
use Rattle.sector_device.specs.DiskState.{next_count}
use Rattle.sector_device.specs.Memory.{MemoryState, fused, last_of}
use Rattle.sector_device.specs.MemoryDevice.{memory}
use Rattle.sector_device.specs.declared.fuse.Fuse.{Fuse}
use Rattle.sector_device.specs.declared.memory.MemoryDevice.{MemoryDevice}
use Rattle.whole_lives.specs.Lives.{Asking}
use Rattle.whole_lives.specs.Devices.{Memories, CountsRefusal, CountsCut, LeavesRound, Obeying, Refusing, IsFailedCall, IsPlayed, IsBlown, KeepsFuse, KeepsFuseIfThere, HasBurnt, HasBurntIfThere}
use Rattle.whole_lives.specs.Rounds.{StopsGiving, IsByFuse}
use Rattle.whole_lives.specs.declared.error.LifeError.{LifeError}

pub by_fuse_counts : (old left : Memories) (why : LifeError) → IsByFuse why left → CountsRefusal why old left → CountsCut false old left
by_fuse_counts old left why (inl (is, blown)) counted = inl (subst (λ (w : LifeError). CountsRefusal w old left) is counted)
by_fuse_counts old left why (inr (inl (is, blown))) counted = inl (subst (λ (w : LifeError). CountsRefusal w old left) is counted)
by_fuse_counts old left why (inr (inr (is, blown))) counted = inr (subst (λ (w : LifeError). CountsRefusal w old left) is counted)

pub by_fuse_failed : (left : Memories) (why : LifeError) → IsByFuse why left → IsFailedCall why
by_fuse_failed left why (inl (is, blown)) = inl is
by_fuse_failed left why (inr (inl (is, blown))) = inr (inl is)
by_fuse_failed left why (inr (inr (is, blown))) = inr (inr is)

pub by_fuse_blown : (left : Memories) (why : LifeError) → IsByFuse why left → IsBlown left
by_fuse_blown left why (inl (is, blown)) = inl blown
by_fuse_blown left why (inr (inl (is, blown))) = inl blown
by_fuse_blown left why (inr (inr (is, blown))) = inr blown

pub ended_by_fuse : {asks : Asking} {obeys : Obeying} {refuses : Refusing} {rom : List ℕ} {old left : Memories} {text report : List ℕ} {why : LifeError}
    → StopsGiving asks refuses rom old left text report why → IsByFuse why left → IsPlayed asks obeys refuses rom old left text report false
ended_by_fuse {asks} {obeys} {refuses} {rom} {old} {left} {text} {report} {why} stops by_fuse = record {
  leaves = subst (λ (front : List ℕ). LeavesRound asks rom old left text front false) (stops.whole (by_fuse_failed left why by_fuse)) stops.leaves;
  said = (why, by_fuse_failed left why by_fuse, stops.refused.cause);
  counts = by_fuse_counts old left why by_fuse stops.refused.counted;
  blown = λ whole. by_fuse_blown left why by_fuse;
}

-- ---- the calls under a fuse

pub burnt : (calls : ℕ) (old : MemoryState) (device : MemoryDevice) → KeepsFuse (fused calls old) (memory device) → HasBurnt calls old (memory device)
burnt calls old device keeps = record {
  follows = keeps.follows;
  most = λ few. subst (λ (set : Fuse). device.asked + set.faults ≤ last_of set + device.faults) keeps.set (device.counted.most few);
  least = λ blown. subst (λ (set : Fuse). next_count (last_of set) ≤ device.asked) keeps.set (device.counted.past blown);
}

pub burnt_if_there : (calls : ℕ) (old : Option MemoryState) (device : Option MemoryDevice) → KeepsFuseIfThere (option_map (fused calls) old) (option_map memory device) → HasBurntIfThere calls old (option_map memory device)
burnt_if_there calls None None keeps = tt
burnt_if_there calls None (Some d) keeps = absurd keeps
burnt_if_there calls (Some m) None keeps = absurd keeps
burnt_if_there calls (Some m) (Some d) keeps = burnt calls m d keeps
