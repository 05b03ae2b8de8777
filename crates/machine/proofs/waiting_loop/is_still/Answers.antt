use Rattle.std.proofs.Common.{ℕ, Option, subst}
use Rattle.memory_map.specs.BusRules.{bus_rules}
use Rattle.sm83_processor.specs.StillSteps.{IsStillIfTold}
use Rattle.machine.proofs.WaitingLoop.{still_here}
use Rattle.machine.proofs.waiting_loop.is_still.Goals as goal

pub returns-in-Some : goal.returns-in-Some
returns-in-Some c =
    let p = c.args.processor.now in
    let bytes = c.has_lasting_bytes.ensures in
    let last = c.if-not-has_lasting_bytes.false in
    λ lasts. still_here c.in-Some.address p (c.is_fast.ensures.fast c.if-not-is_fast.false) (bytes.first last) (bytes.second last) (bytes.third last) (c.lasts.ensures lasts)
    (subst (λ (told : Option ℕ). IsStillIfTold bus_rules told p) c.in-Some.is c.still_by.ensures)
