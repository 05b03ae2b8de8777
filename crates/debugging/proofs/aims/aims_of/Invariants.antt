use Rattle.std.proofs.Common.{◌≡◌, take, map}
use Rattle.debugging.specs.Quiet.{aim_of}
use Rattle.debugging.proofs.aims.aims_of.Given as goal

abbrev pub invariant-loop-condition : goal.invariant-loop-condition
invariant-loop-condition l = l.aims.items ≡ map (aim_of l.processor.memory) (take l.condition-index l.conditions)
