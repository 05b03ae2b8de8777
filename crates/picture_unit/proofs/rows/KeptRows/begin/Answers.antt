use Rattle.std.proofs.Common.{◌≡◌, true, false, sym, ◌∙◌}
use Rattle.std.proofs.lemmas.List.{get_or-replicate}
use Rattle.picture_unit.proofs.rows.KeptRows.begin.Goals as goal

pub returns-clause-kept : goal.returns-clause-kept
returns-clause-kept c = λ rows vram oam kept some y within marked by.
    absurd (let e : false ≡ true = sym (get_or-replicate 144 y false false within) ∙ marked in cc)
