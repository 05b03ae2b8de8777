use Rattle.std.proofs.Common.{take}
use Rattle.input_entries.specs.Inputs.{inputs, all_entries}
use Rattle.session.specs.Inputs.{inputs_of}
use Rattle.replaying.specs.Lines.{HasWritten}
use Rattle.replaying.proofs.lines.write_entries.Given as goal

abbrev pub invariant-loop-entry : goal.invariant-loop-entry
invariant-loop-entry g l =
    all_entries l.entries → HasWritten l.initial.run l.run (inputs_of (inputs (take l.entry-index l.entries))) (g.W.Output.contents l.initial.out) (g.W.Output.contents l.out)
