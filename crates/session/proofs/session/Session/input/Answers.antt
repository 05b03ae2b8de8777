use Rattle.std.proofs.Common.{◌++◌, ◌∷◌, [], refl, sym, ap, ◌∙◌}
use Rattle.sha2.specs.Sha256.{sha256}
use Rattle.snapshot.specs.Encoding.{snapshot_length}
use Rattle.machine.specs.Machine.{Input, as_input}
use Rattle.session.specs.Inputs.{can_be_logged, inputs_of}
use Rattle.session.proofs.StandsLaws.{logged_append}
use Rattle.session.proofs.Beginnings.{own_again}
use Rattle.session.proofs.Saving.{given_passes, logged_more, same_after, few_more, counted_more, leads_more, rests_by}
use Rattle.session.proofs.session.Session.input.Goals as goal

pub invariant_of-self-clause-room : goal.invariant_of-self-clause-room
invariant_of-self-clause-room g c =
    c.args.self.now.room ∙ ap snapshot_length (sym (same_after c.args.self.now.machine c.apply.new.self (as_input c.args.input) (given_passes c.args.input) c.apply.ensures).ram_length)

pub invariant_of-self-clause-id : goal.invariant_of-self-clause-id
invariant_of-self-clause-id g c =
    c.args.self.now.id ∙ ap sha256 (sym (same_after c.args.self.now.machine c.apply.new.self (as_input c.args.input) (given_passes c.args.input) c.apply.ensures).rom)

pub invariant_of-self-clause-own : goal.invariant_of-self-clause-own
invariant_of-self-clause-own g c =
    own_again c.args.self.now.machine c.apply.new.self (same_after c.args.self.now.machine c.apply.new.self (as_input c.args.input) (given_passes c.args.input) c.apply.ensures) c.args.self.now.own

pub invariant_of-self-clause-rests : goal.invariant_of-self-clause-rests
invariant_of-self-clause-rests g c = λ whole honest.
    rests_by (same_after c.args.self.now.machine c.apply.new.self (as_input c.args.input) (given_passes c.args.input) c.apply.ensures).rom (c.args.self.now.rests whole honest)

pub invariant_of-self-clause-leads : goal.invariant_of-self-clause-leads
invariant_of-self-clause-leads g c =
    leads_more c.args.self.now.saved.value c.args.self.now.pending.items c.push.new.entries.items c.entry_of.result c.args.self.now.machine c.apply.new.self (as_input c.args.input)
    c.args.self.now.leads c.push.ensures.items c.entry_of.ensures.is_input c.entry_of.ensures.input c.apply.ensures

pub returns-clause-kept : goal.returns-clause-kept
returns-clause-kept g c = (refl, refl, (same_after c.args.self.now.machine c.apply.new.self (as_input c.args.input) (given_passes c.args.input) c.apply.ensures).rom)

pub returns-clause-given : goal.returns-clause-given
returns-clause-given g c =
    ap inputs_of c.push.ensures.items ∙ logged_append c.args.self.now.pending.items (c.entry_of.result ∷ [])
    ∙ ap (λ (i : Input). inputs_of c.args.self.now.pending.items ++ i ∷ []) c.entry_of.ensures.input

pub returns-clause-logged : goal.returns-clause-logged
returns-clause-logged g c = ap can_be_logged c.push.ensures.items ∙ logged_more c.args.self.now.pending.items c.entry_of.result c.entry_of.ensures.is_input

pub invariant_of-self-clause-few : goal.invariant_of-self-clause-few
invariant_of-self-clause-few g c = few_more c.args.self.now.pending.items c.push.new.entries.items c.entry_of.result c.push.ensures.items c.in_default.ensures.few

pub invariant_of-self-clause-counted : goal.invariant_of-self-clause-counted
invariant_of-self-clause-counted g c = counted_more c.args.self.now.pending.items c.push.new.entries.items c.entry_of.result c.args.self.now.acknowledged c.push.ensures.items c.in_default.ensures.counted
