use Rattle.std.proofs.Common.{◌++◌, ℕ, List, replicate}
use Rattle.sha2.specs.Hashers.{Holds256}
use Rattle.recording_marks.specs.Digests.{bytes_of}
use Rattle.recording_marks.proofs.hashing.hash_times.Given as goal

abbrev pub invariant-loop-i : goal.invariant-loop-i
invariant-loop-i l = (m : List ℕ) → Holds256 l.initial.hasher m → Holds256 l.hasher (m ++ bytes_of (replicate l._i l.entry))
