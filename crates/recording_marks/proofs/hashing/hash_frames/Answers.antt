use Rattle.std.proofs.Common.{◌≡◌, ◌-◌, ◌++◌, ℕ, replicate, subst, arith}
use Rattle.sha2.specs.Hashers.{Holds256}
use Rattle.input_entries.specs.Inputs.{frame}
use Rattle.input_entries.specs.declared.Entry.{Entry}
use Rattle.recording_marks.specs.Digests.{bytes_of, HasHashed}
use Rattle.recording_marks.proofs.Hashed.{hashed_frames}
use Rattle.recording_marks.proofs.hashing.hash_frames.Goals as goal

pub returns-then-left-times : goal.returns-then-left-times
returns-then-left-times c =
    let none : c.args.left - c.args.left ≡ 0 = omega arith in
    subst (λ (n : ℕ). HasHashed c.args.hasher.now c.hash_times.new.hasher c.args.left n (replicate c.args.times (frame c.args.buttons))) none
    (hashed_frames c.args.hasher.now c.hash_times.new.hasher c.args.buttons c.args.times c.args.left c.args.left (omega arith)
    (λ m holds. subst (λ (e : Entry). Holds256 c.hash_times.new.hasher (m ++ bytes_of (replicate c.args.left e))) c.frame-entry.ensures.is (c.hash_times.ensures m holds)))

pub returns : goal.returns
returns c =
    hashed_frames c.args.hasher.now c.hash_times-2.new.hasher c.args.buttons c.args.times c.args.left c.args.times (omega arith)
    (λ m holds. subst (λ (e : Entry). Holds256 c.hash_times-2.new.hasher (m ++ bytes_of (replicate c.args.times e))) c.frame-entry.ensures.is (c.hash_times-2.ensures m holds))
