use Rattle.std.proofs.Common.{◌≡◌, refl}
use Rattle.std.specs.Prelude.{None}
use Rattle.cartridge.specs.Accepted.{refusal_of}
use Rattle.cartridge.proofs.Accepted.{accepted_unrefused, refusal_of-accepted}
use Rattle.cartridge.proofs.Cartridge.read.Goals as goal

pub invariant_of-result : goal.invariant_of-result
invariant_of-result c =
    let unrefused : refusal_of c.args.image.items ≡ None = cc c.deref.ensures.value in
    (accepted_unrefused c.args.image.items unrefused, cc)

pub returns-in-Some-clause-accepted : goal.returns-in-Some-clause-accepted
returns-in-Some-clause-accepted c =
    (λ ok. cc, λ is. let unrefused = refusal_of-accepted c.args.image.items is in cc c.deref.ensures.value)

pub returns-in-None-clause-accepted : goal.returns-in-None-clause-accepted
returns-in-None-clause-accepted c = (λ ok. (invariant_of-result c).0, λ is. refl)
