use Rattle.std.proofs.Common.{◌+◌, ◌<◌, ◌≤◌, [], ◌∙◌, ap, sym, arith}
use Rattle.std.proofs.lemmas.List.{drop_all}
use Rattle.log_format.specs.Inputs.{wrong_from}
use Rattle.log_format.proofs.Wrong.{wrong_none, wrong_many, wrong_next}
use Rattle.log_format.proofs.logged.first_wrong.Goals as goal

pub returns-then-inputs-eq0 : goal.returns-then-inputs-eq0
returns-then-inputs-eq0 c =
    let i = c.loop-index.index in
    sym (c.loop-index.invariant.rest ∙ wrong_none c.args.log.now i c.loop-index.before (record { code = [] }) c.loop-index-test.true (sym c.if-inputs-eq0.true ∙ c.inputs_of-inputs.ensures))

pub returns-then-inputs-before : goal.returns-then-inputs-before
returns-then-inputs-before c =
    let i = c.loop-index.index in
    sym (c.loop-index.invariant.rest ∙ wrong_many c.args.log.now i c.loop-index.before c.inputs_of-inputs.result (record { code = [] }) c.loop-index-test.true c.inputs_of-inputs.ensures
    (omega (arith, c.if-inputs-before.true)) (omega (arith, c.if-inputs-before.true, c.loop-index.invariant.bound)))

pub loop-index-preserved : goal.loop-index-preserved
loop-index-preserved c =
    let i = c.loop-index.index in
    let some : 0 < c.inputs_of-inputs.result = omega (arith, c.if-inputs-eq0.false) in
    let few : c.loop-index.before + c.inputs_of-inputs.result ≤ 216000 = omega (arith, c.if-inputs-before.false, c.loop-index.invariant.bound) in
    record {
      rest = c.loop-index.invariant.rest ∙ wrong_next c.args.log.now i c.loop-index.before c.inputs_of-inputs.result (record { code = [] }) c.loop-index-test.true c.inputs_of-inputs.ensures some few;
      bound = few;
    }
