use Rattle.std.proofs.Common.{◌∙◌, ℕ, List, Option, Bor, ap, sym, arith}
use Rattle.debugging.specs.Orders.{all_conditions}
use Rattle.debugging.specs.Words.{words_after}
use Rattle.debugging.specs.declared.order.Condition.{Condition}
use Rattle.debugging.proofs.Words.{onto, onto_more, too_many_conditions}
use Rattle.debugging.proofs.order.read_conditions.Goals as goal

pub returns-then-len-ge-MOST_CONDITIONS : goal.returns-then-len-ge-MOST_CONDITIONS
returns-then-len-ge-MOST_CONDITIONS c =
    too_many_conditions c.args.least c.loop-rest.conditions.items c.in_ok-one.one.condition _ _
    (c.loop-rest.invariant.read
    ∙ ap (λ (rest : Option (Bor (List ℕ))). onto c.loop-rest.conditions.items (all_conditions c.args.is_mixed (words_after rest))) c.in-Some.is
    ∙ ap (onto c.loop-rest.conditions.items) c.in_ok-one.ensures.some)
    (omega (arith, c.if-len-ge-MOST_CONDITIONS.true, c.len.ensures))

pub loop-rest-preserved : goal.loop-rest-preserved
loop-rest-preserved c =
    let conditions = c.loop-rest.conditions.items in
    let more = all_conditions c.args.is_mixed (words_after c.in_ok-one.one.rest) in
    record {
      read = c.loop-rest.invariant.read
          ∙ ap (λ (rest : Option (Bor (List ℕ))). onto conditions (all_conditions c.args.is_mixed (words_after rest))) c.in-Some.is
          ∙ ap (onto conditions) c.in_ok-one.ensures.some
          ∙ onto_more conditions c.in_ok-one.one.condition more
          ∙ ap (λ (all : List Condition). onto all more) (sym c.push.ensures.items);
      few = omega (arith, c.push.ensures.len, c.if-len-ge-MOST_CONDITIONS.false, c.len.ensures);
    }
