use Rattle.std.proofs.Common.{ℕ, Some, subst, sym}
use Rattle.sector_device.specs.FileDevice.{file_disk}
use Rattle.replaying.specs.Verifying.{IsOfVerifying, IsVerifiedWithin, IsVerifyCause}
use Rattle.replaying.specs.declared.error.VerifyError.{VerifyError}
use Rattle.gbkeep.specs.Program.{IsNotOf}
use Rattle.gbkeep.specs.Request.{limits_up_to}
use Rattle.refusals.specs.declared.refusal.Refusal.{Refusal}
use Rattle.gbkeep.proofs.Belonging.{looked_both}
use Rattle.gbkeep.proofs.FileTexts.{err_at, ok_at}
use Rattle.gbkeep.proofs.RecordTexts.{not_of}
use Rattle.gbkeep.proofs.recordings.belonging.Goals as goal

pub returns-in-Err-clause-cause : goal.returns-in-Err-clause-cause
returns-in-Err-clause-cause c =
    let game = file_disk c.args.pair.save in
    let tape = file_disk c.args.pair.recording in
    subst (λ (fault : Refusal). IsNotOf c.args.cartridge.now game tape fault) (sym c.refusal_of.ensures)
    (not_of c.args.cartridge.now game tape c.args.replayed c.in-Err.why
    (err_at c.verify-found.result.answer c.in-Err.why (λ (why : VerifyError). game.honest → tape.honest → IsVerifyCause (Some (limits_up_to c.args.replayed)) c.args.cartridge.now game tape why)
    c.in-Err.is c.verify-found.ensures.cause)
    (err_at c.verify-found.result.answer c.in-Err.why (IsOfVerifying (Some (limits_up_to c.args.replayed))) c.in-Err.is c.verify-found.ensures.kind))

pub returns-in-Ok-clause-belongs : goal.returns-in-Ok-clause-belongs
returns-in-Ok-clause-belongs c =
    let found = c.verify-found.ensures in
    let game = file_disk c.args.pair.save in
    let tape = file_disk c.args.pair.recording in
    looked_both (limits_up_to c.args.replayed) c.args.cartridge.now game (file_disk c.verify-found.result.save) tape (file_disk c.verify-found.result.recording) c.in-Ok.count
    found.answered_save.honest.0 found.answered_recording.honest.0 found.looked_save found.looked_recording
    (ok_at c.verify-found.result.answer c.in-Ok.count (λ (count : ℕ). game.honest → tape.honest → IsVerifiedWithin (Some (limits_up_to c.args.replayed)) c.args.cartridge.now game.sectors tape.sectors count) c.in-Ok.is found.ok)
