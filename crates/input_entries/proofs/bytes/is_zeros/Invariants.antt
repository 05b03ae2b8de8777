use Rattle.std.proofs.Common.{◌≡◌, drop}
use Rattle.input_entries.specs.Bytes.{zeros}
use Rattle.input_entries.proofs.bytes.is_zeros.Given as goal

abbrev pub invariant-loop-byte : goal.invariant-loop-byte
invariant-loop-byte l = zeros l.bytes ≡ zeros (drop l.byte-index l.bytes)
