use Rattle.std.proofs.Common.{◌∙◌, ◌++◌, ℕ, List, replicate, sym, ap, subst, append_assoc}
use Rattle.sha2.specs.Hashers.{Holds256}
use Rattle.recording_marks.specs.Digests.{bytes_of}
use Rattle.recording_marks.proofs.Bytes.{bytes-more}
use Rattle.recording_marks.proofs.hashing.hash_times.Goals as goal

pub loop-i-preserved : goal.loop-i-preserved
loop-i-preserved c = λ m holds.
    let entry = c.args.entry.now in
    let before = bytes_of (replicate c.loop-i._i entry) in
    subst (λ (l : List ℕ). Holds256 c.update.new.self l) (append_assoc m before entry.code ∙ ap (λ l. m ++ l) (sym (bytes-more c.loop-i._i entry)))
    (c.update.ensures (m ++ before) (c.loop-i.invariant m holds))
