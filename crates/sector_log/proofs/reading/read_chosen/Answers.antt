use Rattle.std.proofs.Common.{ap, ◌∙◌}
use Rattle.sector_device.proofs.Looking.{looks_then}
use Rattle.log_format.specs.Content.{root_at, newer}
use Rattle.sector_log.proofs.reading.read_chosen.Goals as goal

pub returns-in_err-first-clause-looked : goal.returns-in_err-first-clause-looked
returns-in_err-first-clause-looked g c = looks_then c.read_root.ensures.looked c.read_root-2.ensures.looked

pub returns-clause-looked : goal.returns-clause-looked
returns-clause-looked g c = looks_then c.read_root.ensures.looked c.read_root-2.ensures.looked

pub returns-clause-root : goal.returns-clause-root
returns-clause-root g c = λ honest.
    let looked = c.read_root.ensures.looked honest in
    let zeroth = c.in_ok-zeroth.ensures.root honest in
    let first = c.in_ok-first.ensures.root looked.honest ∙ ap (root_at 1) looked.sectors in
    c.newer.ensures ∙ (λ i. newer (zeroth i) (first i))
