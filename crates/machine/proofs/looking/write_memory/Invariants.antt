use Rattle.std.proofs.Common.{◌≡◌, ◌+◌, ◌%◌, ◌<◌, ℕ, get_or}
use Rattle.memory_map.specs.Bus.{peeked}
use Rattle.machine.proofs.looking.write_memory.Given as goal

abbrev pub invariant-loop-k : goal.invariant-loop-k
invariant-loop-k l = (k : ℕ) → k < l.k → get_or l.bytes k 0 ≡ peeked l.machine.processor.memory ((l.address + k) % 65536)
