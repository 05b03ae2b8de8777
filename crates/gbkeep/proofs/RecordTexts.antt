-- What a recorded play wrote, and why one was refused.
use Rattle.std.proofs.Common.{inl, inr, refl, List, ℕ, Option, Some}
use Rattle.cartridge.specs.Accepted.{IsAccepted}
use Rattle.sector_device.specs.DiskState.{DiskState}
use Rattle.sector_device.specs.FileDevice.{file_disk}
use Rattle.sector_device.specs.declared.file.FileDevice.{FileDevice}
use Rattle.replaying.specs.Verifying.{IsOfVerifying, IsVerifyCause}
use Rattle.replaying.specs.declared.error.VerifyError.{VerifyError}
use Rattle.replaying.specs.declared.error.VerifyError.TheVariants.{Save, Recording as Taped, Behind as IsBehind, Ahead as IsAhead, Memory as Lacked, Differ as Differing}
use Rattle.commands.specs.declared.error.CommandError.TheVariants.{Verify}
use Rattle.streaming.specs.declared.obeying.End.{End}
use Rattle.recorded_play.specs.Whole.{HasRecorded, IsRecordCause}
use Rattle.recorded_play.specs.declared.error.RecordError.{RecordError}
use Rattle.recorded_play.specs.declared.error.RecordError.TheVariants.{Session, Recording, Behind, Line, Input}
use Rattle.playing.proofs.Telling.{keeps_same}
use Rattle.recording_marks.specs.declared.text.Mark.{Mark}
use Rattle.refusals.specs.declared.refusal.Refusal.{Refusal}
use Rattle.refusals.specs.declared.refusal.Refusal.TheVariants.{Cart as ACart, Memory as AMemory, File as AFile, Output as AnOutput, Address as AnAddress, Word as AWord, Device as ADevice, Script as AScript, Session as ASession, Line as ALine, Input as AnInput, Snapshot as ASnapshot, NoState as ANoState, OtherState as AnOtherState, Recording as ARecording, Behind as ABehind, Ahead as AnAhead, Differ as ADiffer, OtherRecording as AnOtherRecording, RecordedGame as ARecordedGame, TestFailed as ATestFailed, TestUndecided as ATestUndecided, NoBattery as NoBatteryThere, BatteryLength as ABatteryLength, WrongLength as AWrongLength, NoTime as ANoTime}
use Rattle.gbkeep.specs.Program.{IsNotMarked, IsNotOf, IsRecordRefused, refusal_of_command}
use Rattle.gbkeep.specs.Request.{Belongs, IsNotBelonging, IsRecordedTo, limits_up_to, record_limits}

-- what a recorded play that was refused is for the program
abbrev pub refusal_of_record : RecordError → Refusal
refusal_of_record (Session why) = ASession why
refusal_of_record (Recording why) = ARecording why
refusal_of_record (Behind count) = ABehind count
refusal_of_record (Line number) = ALine number
refusal_of_record Input = AnInput

module _ (rom : List ℕ) (accepted : IsAccepted rom) (save now_save recording now_recording : FileDevice) (before_in since_in before since : Option (List ℕ)) where
  pub recorded_to : (end : End) → Belongs record_limits rom (file_disk save) (file_disk recording)
      → HasRecorded rom (file_disk save) (file_disk now_save) (file_disk recording) (file_disk now_recording) end before_in since_in before since
      → IsRecordedTo end (record { before = before_in; since = since_in }) (record { before = before; since = since })
  recorded_to end belongs it = (rom, accepted, (save, now_save, recording, now_recording, (belongs, it)))

  pub record_refused : (why : RecordError) → Belongs record_limits rom (file_disk save) (file_disk recording)
      → IsRecordCause why rom (file_disk save) (file_disk now_save) (file_disk recording) (file_disk now_recording) before_in since_in before since
      → IsRecordRefused (refusal_of_record why) (record { before = before_in; since = since_in }) (record { before = before; since = since })
  record_refused (Session why) belongs cause = inl (rom, accepted, (save, now_save, recording, now_recording, (belongs, cause)))
  record_refused (Recording why) belongs cause = inl (rom, accepted, (save, now_save, recording, now_recording, (belongs, cause)))
  record_refused (Behind count) belongs cause = inl (rom, accepted, (save, now_save, recording, now_recording, (belongs, cause)))
  record_refused (Line number) belongs (inl it) = absurd it.0.kind
  record_refused (Line number) belongs (inr it) = recorded_to _ belongs it
  record_refused Input belongs (inl it) = absurd it.0.kind
  record_refused Input belongs (inr it) = recorded_to _ belongs it

-- a game that was not taken up, since its mark knows another recording
pub not_marked : (said : Option Mark) (tape : FileDevice) (input output : Option (List ℕ)) (fault : Refusal) → IsNotMarked said (file_disk tape) fault
    → IsRecordRefused fault (record { before = input; since = input }) (record { before = output; since = output })
not_marked said tape input output AnOtherRecording cause = (refl, keeps_same output, (said, (tape, cause)))
not_marked said tape input output AMemory cause = (refl, keeps_same output)
not_marked said tape input output (ADevice why) cause = (refl, keeps_same output)
not_marked said tape input output (ASession why) cause = absurd cause
not_marked said tape input output (ARecording why) cause = absurd cause
not_marked said tape input output (ABehind count) cause = absurd cause
not_marked said tape input output (AnAhead count) cause = absurd cause
not_marked said tape input output ADiffer cause = absurd cause
not_marked said tape input output (ACart why) cause = absurd cause
not_marked said tape input output AFile cause = absurd cause
not_marked said tape input output AnOutput cause = absurd cause
not_marked said tape input output AnAddress cause = absurd cause
not_marked said tape input output AWord cause = absurd cause
not_marked said tape input output (AScript why) cause = absurd cause
not_marked said tape input output (ALine number) cause = absurd cause
not_marked said tape input output AnInput cause = absurd cause
not_marked said tape input output ANoState cause = absurd cause
not_marked said tape input output (ASnapshot why) cause = absurd cause
not_marked said tape input output AWrongLength cause = absurd cause
not_marked said tape input output ANoTime cause = absurd cause
not_marked said tape input output AnOtherState cause = absurd cause
not_marked said tape input output ARecordedGame cause = absurd cause
not_marked said tape input output ATestFailed cause = absurd cause
not_marked said tape input output ATestUndecided cause = absurd cause
not_marked said tape input output NoBatteryThere cause = absurd cause
not_marked said tape input output (ABatteryLength found needed) cause = absurd cause

-- why a recording is not taken for that of a game
pub not_of : (rom : List ℕ) (game tape : DiskState) (replayed : ℕ) (why : VerifyError)
    → (game.honest → tape.honest → IsVerifyCause (Some (limits_up_to replayed)) rom game tape why) → IsOfVerifying (Some (limits_up_to replayed)) why
    → IsNotOf rom game tape (refusal_of_command (Verify why))
not_of rom game tape replayed (Save why) cause kind = (cause, kind)
not_of rom game tape replayed (Taped why) cause kind = cause
not_of rom game tape replayed (IsBehind count) cause kind = cause
not_of rom game tape replayed (IsAhead count) cause kind = cause
not_of rom game tape replayed Lacked cause kind = tt
not_of rom game tape replayed Differing cause kind = cause

module _ (rom : List ℕ) (accepted : IsAccepted rom) (game tape : FileDevice) (input output : Option (List ℕ)) where
  unbegun : (why : VerifyError) → ((file_disk game).honest → (file_disk tape).honest → IsVerifyCause (Some record_limits) rom (file_disk game) (file_disk tape) why)
      → IsNotBelonging why (record { before = input; since = input }) (record { before = output; since = output })
  unbegun why cause = (refl, keeps_same output, (rom, accepted, (game, tape, cause)))

  -- a game that was not taken up, since its recording is not its own
  pub not_belonging : (fault : Refusal) → IsNotOf rom (file_disk game) (file_disk tape) fault
      → IsRecordRefused fault (record { before = input; since = input }) (record { before = output; since = output })
  not_belonging (ASession why) cause = inr (unbegun (Save why) cause.0)
  not_belonging (ARecording why) cause = inr (unbegun (Taped why) cause)
  not_belonging (ABehind count) cause = inr (unbegun (IsBehind count) cause)
  not_belonging (AnAhead count) cause = unbegun (IsAhead count) cause
  not_belonging ADiffer cause = unbegun Differing cause
  not_belonging AMemory cause = (refl, keeps_same output)
  not_belonging (ACart why) cause = absurd cause
  not_belonging AFile cause = absurd cause
  not_belonging AnOutput cause = absurd cause
  not_belonging AnAddress cause = absurd cause
  not_belonging AWord cause = absurd cause
  not_belonging (ADevice why) cause = absurd cause
  not_belonging (AScript why) cause = absurd cause
  not_belonging (ALine number) cause = absurd cause
  not_belonging AnInput cause = absurd cause
  not_belonging ANoState cause = absurd cause
  not_belonging (ASnapshot why) cause = absurd cause
  not_belonging AWrongLength cause = absurd cause
  not_belonging ANoTime cause = absurd cause
  not_belonging AnOtherState cause = absurd cause
  not_belonging AnOtherRecording cause = absurd cause
  not_belonging ARecordedGame cause = absurd cause
  not_belonging ATestFailed cause = absurd cause
  not_belonging ATestUndecided cause = absurd cause
  not_belonging NoBatteryThere cause = absurd cause
  not_belonging (ABatteryLength found needed) cause = absurd cause
