use Rattle.std.proofs.Common.{sym, ◌∙◌}
use Rattle.script.proofs.Cuts.{cut_at, cut_nowhere}
use Rattle.script.proofs.cutting.cut.Goals as goal

pub returns-in-Some-clause-parts : goal.returns-in-Some-clause-parts
returns-in-Some-clause-parts c = cut_at _ _ _ (sym c.place_of.ensures ∙ c.in-Some.is)

pub returns-in-None-clause-parts : goal.returns-in-None-clause-parts
returns-in-None-clause-parts c = cut_nowhere _ _ (sym c.place_of.ensures ∙ c.in-None.is)
