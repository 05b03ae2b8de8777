use Rattle.std.proofs.Common.{◌≡◌, [], arith}
use Rattle.std.proofs.lemmas.List.Elements.{All-map}
use Rattle.machine_lines.proofs.kept_states.KeptStates.new.Goals as goal

pub invariant_of-result : goal.invariant_of-result
invariant_of-result c = omega (arith, c.loop-number.invariant.count, c.loop-number-test.false)

pub returns : goal.returns
returns c = All-map (λ bytes. bytes ≡ []) (λ v. v.items) c.loop-number.states.items c.loop-number.invariant.empty
