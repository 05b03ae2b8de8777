use Rattle.std.proofs.Common.{◌∙◌, Result, Ok, sym, ap, subst}
use Rattle.sha2.specs.Sha256.{sha256}
use Rattle.cartridge.specs.Header.{has_rumble, ram_length_of}
use Rattle.snapshot.specs.Encoding.{snapshot_length}
use Rattle.snapshot.specs.Legal.{IsLegalSnapshot}
use Rattle.snapshot.specs.Table.{kind_of_image}
use Rattle.snapshot.proofs.Machines.{encoded_legal}
use Rattle.session.specs.Calls.{IsRestoreAnswer}
use Rattle.session.specs.declared.error.SessionError.{SessionError}
use Rattle.session.proofs.Beginnings.{own_of_machine}
use Rattle.session.proofs.Saving.{few_more, counted_more, leads_otherwise, rests_by}
use Rattle.session.proofs.SameSession.{same_session}
use Rattle.session.proofs.session.Session.restore.Goals as goal

pub decode_into-requires : goal.decode_into-requires
decode_into-requires g c =
    let own = c.args.self.now.own in
    record {
      rom = c.requires;
      kind = own.kind ∙ ap kind_of_image c.requires;
      rumble = own.rumble ∙ ap has_rumble c.requires;
      ram_length = own.ram_length ∙ ap ram_length_of c.requires;
    }

pub invariant_of-self-clause-room : goal.invariant_of-self-clause-room
invariant_of-self-clause-room g c =
    let own = c.args.self.now.own in
    c.args.self.now.room ∙ ap snapshot_length (own.ram_length ∙ ap ram_length_of c.requires ∙ sym c.in-Ok.ensures.ok.0.ram_length)

pub invariant_of-self-clause-id : goal.invariant_of-self-clause-id
invariant_of-self-clause-id g c = c.args.self.now.id ∙ ap sha256 (c.requires ∙ sym c.in-Ok.ensures.ok.0.rom)

pub invariant_of-self-clause-own : goal.invariant_of-self-clause-own
invariant_of-self-clause-own g c = own_of_machine c.args.cartridge.now c.decode_into.new.machine c.in-Ok.ensures.ok.0

pub invariant_of-self-clause-rests : goal.invariant_of-self-clause-rests
invariant_of-self-clause-rests g c = λ whole honest.
    rests_by (c.in-Ok.ensures.ok.0.rom ∙ sym c.requires) (c.args.self.now.rests whole honest)

pub invariant_of-self-clause-leads : goal.invariant_of-self-clause-leads
invariant_of-self-clause-leads g c = leads_otherwise c.args.self.now.saved.value c.args.self.now.pending.items c.push.new.entries.items c.no_input.result c.decode_into.new.machine c.push.ensures.items c.no_input.ensures

pub returns-in-Ok-clause-answer : goal.returns-in-Ok-clause-answer
returns-in-Ok-clause-answer g c =
    let rom = c.args.cartridge.now in
    let bytes = c.args.bytes.now in
    subst (λ (taken : Result Unit SessionError). IsRestoreAnswer rom bytes taken (Ok tt)) c.in_default.ensures.answer
    (subst (λ encoded. IsLegalSnapshot rom encoded) c.in-Ok.ensures.ok.1 (encoded_legal rom c.decode_into.new.machine c.in-Ok.ensures.ok.0))

pub returns-in-Err-decode_into-clause-same : goal.returns-in-Err-decode_into-clause-same
returns-in-Err-decode_into-clause-same g c = same_session c.args.self.now c.decode_into.new.machine c.in-Err-decode_into.ensures.refused.0 _

pub invariant_of-self-clause-few : goal.invariant_of-self-clause-few
invariant_of-self-clause-few g c = few_more c.args.self.now.pending.items c.push.new.entries.items c.no_input.result c.push.ensures.items c.in_default.ensures.few

pub invariant_of-self-clause-counted : goal.invariant_of-self-clause-counted
invariant_of-self-clause-counted g c = counted_more c.args.self.now.pending.items c.push.new.entries.items c.no_input.result c.args.self.now.acknowledged c.push.ensures.items c.in_default.ensures.counted
