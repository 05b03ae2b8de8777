use Rattle.std.proofs.Common.{refl}
use Rattle.session.proofs.AtRest.{leads_nowhere, rests_saved}
use Rattle.session.proofs.session.Session.at.Goals as goal

pub invariant_of-result-clause-leads : goal.invariant_of-result-clause-leads
invariant_of-result-clause-leads g c = leads_nowhere c.of-saved.result.value c.args.machine c.args.pending.items c.of-saved.ensures c.requires.empty

pub invariant_of-result-clause-rests : goal.invariant_of-result-clause-rests
invariant_of-result-clause-rests g c = λ whole honest. rests_saved c.of-saved.ensures (c.requires.rests refl honest)
