use Rattle.std.proofs.Common.{List, sym, subst}
use Rattle.input_entries.specs.declared.Entry.{Entry}
use Rattle.replaying.specs.Replayed.{HasReplayed}
use Rattle.replaying.proofs.Replayed.{played_nothing}
use Rattle.replaying.proofs.replay.replay_entry.Goals as goal

pub returns-in-Some-Frames-clause-replayed : goal.returns-in-Some-Frames-clause-replayed
returns-in-Some-Frames-clause-replayed c = λ one.
    let some = rw c.in-Some-Frames.field-0-is at c.in-Some-Frames.ensures.some in
    subst (λ (l : List Entry). HasReplayed c.args.machine.now c.replay_frames.new.machine c.args.left c.replay_frames.result l) (sym some.1) c.replay_frames.ensures.replayed

pub returns-in-Some-Seconds-clause-replayed : goal.returns-in-Some-Seconds-clause-replayed
returns-in-Some-Seconds-clause-replayed c = λ one.
    let some = rw c.in-Some-Seconds.field-0-is at c.in-Some-Seconds.ensures.some in
    subst (λ (l : List Entry). HasReplayed c.args.machine.now c.replay_seconds.new.machine c.args.left c.replay_seconds.result l) (sym some.1) c.replay_seconds.ensures.replayed

pub returns-in-None-clause-played : goal.returns-in-None-clause-played
returns-in-None-clause-played c = played_nothing c.args.machine.now
