-- A new game and a recording without inputs.
use Rattle.std.proofs.Common.{◌≡◌, [], Some, sym, ◌∙◌, subst, arith}
use Rattle.machine.specs.Machine.{start}
use Rattle.session.specs.Stands.{Position}
use Rattle.session.proofs.StandsLaws.{after_none}
use Rattle.replaying.specs.Agreeing.{IsRecorded}
use Rattle.replaying.specs.Laws.{NewFilesAgree}

pub new_files : NewFilesAgree
new_files rom save recording is empty = λ at stood.
    let begun : Position = record { count = 0; machine = start rom } in
    let both : Some at ≡ Some begun = sym stood ∙ is in
    let at_is : at ≡ begun = cc in
    subst (λ (p : Position). IsRecorded rom recording p) (sym at_is)
    (record { entries = []; holds = empty; enough = omega arith; machine_is = sym (after_none (start rom)) })
