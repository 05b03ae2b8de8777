use Rattle.std.proofs.Common.{List, [], sym, subst}
use Rattle.std.proofs.lemmas.List.{take_all}
use Rattle.input_entries.specs.Inputs.{inputs}
use Rattle.input_entries.specs.declared.Entry.{Entry}
use Rattle.input_entries.specs.declared.StoredEntry.{StoredEntry}
use Rattle.recording_marks.specs.Digests.{HasHashed}
use Rattle.replaying.proofs.Entries.{next_of}
use Rattle.recording_marks.proofs.Hashed.{hashed_nothing, hashed_then}
use Rattle.recording_marks.proofs.hashing.hash_entries.Goals as goal

pub loop-entry-init : goal.loop-entry-init
loop-entry-init c = λ all. hashed_nothing c.args.hasher.now c.args.left

pub loop-entry-preserved : goal.loop-entry-preserved
loop-entry-preserved c = λ all.
    let next = next_of c.args.entries.now c.loop-entry.entry-index (record { code = [] }) c.loop-entry-test.true all in
    subst (λ (l : List Entry). HasHashed c.args.hasher.now c.hash_entry-left.new.hasher c.args.left c.hash_entry-left.result l) (sym next.done)
    (hashed_then (c.loop-entry.invariant all) (c.hash_entry-left.ensures next.is_one))

pub returns : goal.returns
returns c = λ all.
    subst (λ (l : List StoredEntry). HasHashed c.args.hasher.now c.loop-entry.hasher c.args.left c.loop-entry.left (inputs l)) (take_all c.loop-entry.entry-index c.args.entries.now c.loop-entry-test.false)
    (c.loop-entry.invariant all)
