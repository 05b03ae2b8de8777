use Rattle.std.proofs.Common.{◌<◌, ap, ◌∙◌, sym, arith, Some}
use Rattle.input_entries.specs.Inputs.{run_length}
use Rattle.input_entries.proofs.MoreInputs.{lengthens_means, grown_none, grown_then, grown_else}
use Rattle.input_entries.proofs.growing.grow.Goals as goal

pub longer-requires : goal.longer-requires
longer-requires c =
    let short : run_length c.in-Some.run' < 216000 = (lengthens_means c.in-Some.run' c.args.input.now (sym c.lengthens.ensures.is ∙ c.if-lengthens.true)).1 in
    omega (arith, short)

pub returns-in_default-clause-grown : goal.returns-in_default-clause-grown
returns-in_default-clause-grown c = λ list is.
    let r = grown_none list c.args.input.now (is ∙ c.in_default.is) in
    (r.0 ∙ ap Some (sym c.single.ensures.is), r.1)

pub returns-then-lengthens-clause-grown : goal.returns-then-lengthens-clause-grown
returns-then-lengthens-clause-grown c = λ list is.
    let r = grown_then list c.in-Some.run' c.args.input.now (is ∙ c.in-Some.is) (sym c.lengthens.ensures.is ∙ c.if-lengthens.true) in
    (r.0 ∙ ap Some (sym c.longer.ensures), r.1)

pub returns-clause-grown : goal.returns-clause-grown
returns-clause-grown c = λ list is.
    let r = grown_else list c.in-Some.run' c.args.input.now (is ∙ c.in-Some.is) (sym c.lengthens.ensures.is ∙ c.if-lengthens.false) in
    (r.0 ∙ ap Some (sym c.single-2.ensures.is), r.1)
