use Rattle.std.proofs.Common.{◌≡◌, drop}
use Rattle.std.specs.List.{list_all}
use Rattle.input_entries.specs.Inputs.{is_entry}
use Rattle.recording.proofs.parse.are_entries.Given as goal

abbrev pub invariant-loop-entry : goal.invariant-loop-entry
invariant-loop-entry l = list_all is_entry l.entries ≡ list_all is_entry (drop l.entry-index l.entries)
