use Rattle.std.proofs.Common.{◌≡◌, ◌∙◌, List, ℕ, ap, refl, subst, sym}
use Rattle.cartridge.specs.Accepted.{IsAccepted}
use Rattle.recording.specs.Accessors.{device_of as device_of_recording}
use Rattle.session.specs.Accessors.{device_of}
use Rattle.gbkeep.specs.Program.{IsRecordRefused}
use Rattle.refusals.specs.declared.refusal.Refusal.{Refusal}
use Rattle.gbkeep.proofs.RecordTexts.{refusal_of_record, not_belonging, not_marked, recorded_to, record_refused}
use Rattle.gbkeep.proofs.recordings.record.Goals as goal
use Rattle.gbkeep.proofs.recordings.record.Goals.{in-Session, in-Recording, in-Behind, in-Line, in-Input}

accepted_as : (rom image : List ℕ) → image ≡ rom → IsAccepted rom → IsAccepted image
accepted_as rom image is accepted = subst (λ (r : List ℕ). IsAccepted r) (sym is) accepted

pub returns-in-Ok-record_play-clause-served : goal.returns-in-Ok-record_play-clause-served
returns-in-Ok-record_play-clause-served g c =
    recorded_to c.in_ok-cartridge.cartridge (accepted_as _ _ c.in_ok-cartridge.ensures.image (c.in_ok-cartridge.ensures.accepted.0 refl)) c.in-Ok-marked.game.save
    (device_of c.in-Ok-record_play.game.session) c.in-Ok-marked.game.recording (device_of_recording c.in-Ok-record_play.game.recording) _ _ _ _ _ (c.in-Ok-marked.ensures.belongs (c.in-Ok-certain.ensures.belongs c.in-Ok.ensures.belongs)) c.in-Ok-record_play.ensures.recorded

pub returns-in-Err-clause-served : goal.returns-in-Err-clause-served
returns-in-Err-clause-served g c =
    not_belonging c.in_ok-cartridge.cartridge (accepted_as _ _ c.in_ok-cartridge.ensures.image (c.in_ok-cartridge.ensures.accepted.0 refl)) c.in_ok-pair.pair.save c.in_ok-pair.pair.recording
    (g.I.LineInput.remaining c.args.input.now) (g.O.Output.contents c.args.out.now) c.in-Err.fault c.in-Err.ensures.cause

pub returns-in-Err-certain-clause-served : goal.returns-in-Err-certain-clause-served
returns-in-Err-certain-clause-served g c =
    not_belonging c.in_ok-cartridge.cartridge (accepted_as _ _ c.in_ok-cartridge.ensures.image (c.in_ok-cartridge.ensures.accepted.0 refl)) c.in-Ok.game.save c.in-Ok.game.recording
    (g.I.LineInput.remaining c.args.input.now) (g.O.Output.contents c.args.out.now) c.in-Err-certain.fault c.in-Err-certain.ensures.cause

pub returns-in-Err-marked-clause-served : goal.returns-in-Err-marked-clause-served
returns-in-Err-marked-clause-served g c =
    not_marked c.in_ok-found.found.said c.in-Ok-certain.game.recording (g.I.LineInput.remaining c.args.input.now) (g.O.Output.contents c.args.out.now)
    c.in-Err-marked.fault c.in-Err-marked.ensures.cause

pub returns-clause-served : goal.returns-clause-served
returns-clause-served g c =
    let accepted = accepted_as _ _ c.in_ok-cartridge.ensures.image (c.in_ok-cartridge.ensures.accepted.0 refl) in
    let was = g.I.LineInput.remaining c.args.input.now in
    let now = g.I.LineInput.remaining c.record.new.input in
    let before = g.O.Output.contents c.args.out.now in
    let since = g.O.Output.contents c.record.new.out in
    let cause = c.in-Err-record_play.ensures.refused in
    let IsOf = λ (fault : Refusal). IsRecordRefused fault (record { before = was; since = now }) (record { before = before; since = since }) in
    let refused = record_refused c.in_ok-cartridge.cartridge accepted c.in-Ok-marked.game.save c.in-Err-record_play.refused.save c.in-Ok-marked.game.recording c.in-Err-record_play.refused.recording was now before since in
    let is_of : c.match-refused.result ≡ refusal_of_record c.in-Err-record_play.refused.why = elim c.match-refused.branch [
      | in-Session w ↦ w.result-is ∙ sym (ap refusal_of_record w.in-Session.is)
      | in-Recording w ↦ w.result-is ∙ sym (ap refusal_of_record w.in-Recording.is)
      | in-Behind w ↦ w.result-is ∙ sym (ap refusal_of_record w.in-Behind.is)
      | in-Line w ↦ w.result-is ∙ sym (ap refusal_of_record w.in-Line.is)
      | in-Input w ↦ w.result-is ∙ sym (ap refusal_of_record w.in-Input.is)
    ] in
    subst IsOf (sym is_of) (refused c.in-Err-record_play.refused.why (c.in-Ok-marked.ensures.belongs (c.in-Ok-certain.ensures.belongs c.in-Ok.ensures.belongs)) cause)
