use Rattle.std.proofs.Common.{List, [], sym, subst}
use Rattle.std.proofs.lemmas.List.{take_all}
use Rattle.input_entries.specs.Inputs.{inputs}
use Rattle.input_entries.specs.declared.Entry.{Entry}
use Rattle.input_entries.specs.declared.StoredEntry.{StoredEntry}
use Rattle.replaying.specs.Replayed.{HasReplayed}
use Rattle.replaying.proofs.Entries.{next_of}
use Rattle.replaying.proofs.Replayed.{played_nothing, played_then, replayed_nothing, replayed_then}
use Rattle.replaying.proofs.replay.replay_entries.Goals as goal

pub loop-entry-init : goal.loop-entry-init
loop-entry-init c = record { played = played_nothing c.args.machine.now; replayed = λ all. replayed_nothing c.args.machine.now c.args.left }

pub loop-entry-preserved : goal.loop-entry-preserved
loop-entry-preserved c = record {
  played = played_then c.loop-entry.invariant.played c.replay_entry-left.ensures.played;
  replayed = λ all.
      let next = next_of c.args.entries.now c.loop-entry.entry-index (record { code = [] }) c.loop-entry-test.true all in
      subst (λ (l : List Entry). HasReplayed c.args.machine.now c.replay_entry-left.new.machine c.args.left c.replay_entry-left.result l) (sym next.done)
      (replayed_then (c.loop-entry.invariant.replayed all) (c.replay_entry-left.ensures.replayed next.is_one));
}

pub returns : goal.returns
returns c = record {
  played = c.loop-entry.invariant.played;
  replayed = λ all.
      subst (λ (l : List StoredEntry). HasReplayed c.args.machine.now c.loop-entry.machine c.args.left c.loop-entry.left (inputs l)) (take_all c.loop-entry.entry-index c.args.entries.now c.loop-entry-test.false)
      (c.loop-entry.invariant.replayed all);
}
