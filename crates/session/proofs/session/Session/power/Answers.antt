use Rattle.std.proofs.Common.{◌∙◌, inl, inr, refl, sym, ap, subst}
use Rattle.sha2.specs.Sha256.{sha256}
use Rattle.cartridge.specs.Header.{ram_length_of}
use Rattle.snapshot.specs.Encoding.{snapshot_length}
use Rattle.snapshot.specs.Legal.{IsMachineOf}
use Rattle.session.proofs.Beginnings.{own_of_machine, same_as_start}
use Rattle.session.proofs.Saving.{few_more, counted_more, leads_otherwise, rests_by}
use Rattle.session.proofs.session.Session.power.Goals as goal

pub powered-requires : goal.powered-requires
powered-requires g c = same_as_start c.args.cartridge.now c.args.self.now.machine c.requires c.args.self.now.own

pub invariant_of-self-clause-room : goal.invariant_of-self-clause-room
invariant_of-self-clause-room g c =
    let own = c.args.self.now.own in
    let of = subst (IsMachineOf c.args.cartridge.now) (sym c.replace.ensures.after) c.in-Ok.ensures.of in
    c.args.self.now.room ∙ ap snapshot_length (own.ram_length ∙ ap ram_length_of c.requires ∙ sym of.ram_length)

pub invariant_of-self-clause-id : goal.invariant_of-self-clause-id
invariant_of-self-clause-id g c =
    let of = subst (IsMachineOf c.args.cartridge.now) (sym c.replace.ensures.after) c.in-Ok.ensures.of in
    c.args.self.now.id ∙ ap sha256 (c.requires ∙ sym of.rom)

pub invariant_of-self-clause-own : goal.invariant_of-self-clause-own
invariant_of-self-clause-own g c =
    own_of_machine c.args.cartridge.now c.replace.new.dest (subst (IsMachineOf c.args.cartridge.now) (sym c.replace.ensures.after) c.in-Ok.ensures.of)

pub invariant_of-self-clause-rests : goal.invariant_of-self-clause-rests
invariant_of-self-clause-rests g c = λ whole honest.
    let of = subst (IsMachineOf c.args.cartridge.now) (sym c.replace.ensures.after) c.in-Ok.ensures.of in
    rests_by (of.rom ∙ sym c.requires) (c.args.self.now.rests whole honest)

pub invariant_of-self-clause-leads : goal.invariant_of-self-clause-leads
invariant_of-self-clause-leads g c = leads_otherwise c.args.self.now.saved.value c.args.self.now.pending.items c.push.new.entries.items c.no_input.result c.replace.new.dest c.push.ensures.items c.no_input.ensures

pub returns-in_default-powered-clause-answer : goal.returns-in_default-powered-clause-answer
returns-in_default-powered-clause-answer g c = inr (refl, sym c.takes_input.ensures.answer ∙ c.in_default.is)

pub returns-clause-answer : goal.returns-clause-answer
returns-clause-answer g c = inl (sym c.in_default.is ∙ c.takes_input.ensures.answer)

pub returns-clause-machine : goal.returns-clause-machine
returns-clause-machine g c = c.replace.ensures.after ∙ c.in-Ok.ensures.machine

pub returns-clause-kept : goal.returns-clause-kept
returns-clause-kept g c =
    let of = subst (IsMachineOf c.args.cartridge.now) (sym c.replace.ensures.after) c.in-Ok.ensures.of in
    (refl, refl, of.rom ∙ sym c.requires)

pub invariant_of-self-clause-few : goal.invariant_of-self-clause-few
invariant_of-self-clause-few g c = few_more c.args.self.now.pending.items c.push.new.entries.items c.no_input.result c.push.ensures.items c.in_default.ensures.few

pub invariant_of-self-clause-counted : goal.invariant_of-self-clause-counted
invariant_of-self-clause-counted g c = counted_more c.args.self.now.pending.items c.push.new.entries.items c.no_input.result c.args.self.now.acknowledged c.push.ensures.items c.in_default.ensures.counted
