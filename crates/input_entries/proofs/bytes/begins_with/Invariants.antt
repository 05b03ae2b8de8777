use Rattle.std.proofs.Common.{◌≡◌, drop}
use Rattle.input_entries.specs.Bytes.{begins_with}
use Rattle.input_entries.proofs.bytes.begins_with.Given as goal

abbrev pub invariant-loop-i : goal.invariant-loop-i
invariant-loop-i l = begins_with l.magic l.bytes ≡ begins_with (drop l.i l.magic) (drop l.i l.bytes)
