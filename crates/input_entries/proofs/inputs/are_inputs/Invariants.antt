use Rattle.std.proofs.Common.{◌↔◌, drop}
use Rattle.input_entries.specs.Inputs.{all_input}
use Rattle.input_entries.proofs.inputs.are_inputs.Given as goal

abbrev pub invariant-loop-entry : goal.invariant-loop-entry
invariant-loop-entry l = all_input l.entries ↔ all_input (drop l.entry-index l.entries)
