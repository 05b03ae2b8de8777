-- Why a command over files was refused, of the program.
use Rattle.std.proofs.Common.{◌≡◌, Bor, List, ℕ, [], Option, refl}
use Rattle.sector_device.specs.FileDevice.{file_disk}
use Rattle.sector_device.specs.declared.file.FileDevice.{FileDevice}
use Rattle.replaying.specs.declared.error.VerifyError.TheVariants.{Save, Recording as Taped, Behind, Ahead, Memory as Lacked, Differ}
use Rattle.command_line.specs.declared.Request.TheVariants.{Play, Frame, Trace as TraceOf, Show as ShowOf, Recorded as RecordedOf, Verify as VerifyOf}
use Rattle.commands.specs.declared.error.CommandError.{CommandError}
use Rattle.commands.specs.declared.error.CommandError.TheVariants.{Cart, Script, Session, Stream, Recording, Verify, Debug, Memory, Output}
use Rattle.commands.specs.Play.{IsPlayCause}
use Rattle.commands.specs.Trace.{IsTraceCause}
use Rattle.commands.specs.Show.{IsShowCause}
use Rattle.commands.specs.Recorded.{IsScriptCause}
use Rattle.commands.specs.Verify.{IsLineCause}
use Rattle.commands.specs.Text.{call_on}
use Rattle.gbkeep.specs.Program.{IsRefused, refusal_of_command}

pub play_refused : (cart save script : Bor (List ℕ)) (rom text : List ℕ) (file left : FileDevice) (old new : Option (List ℕ)) (why : CommandError) → (why ≡ Output → ⊥)
    → IsPlayCause rom text (call_on (file_disk file) (file_disk left) old new) why → IsRefused (Play cart save script) (refusal_of_command why) old new
play_refused cart save script rom text file left old new (Cart fault) drawn cause = (tt, cause.1, (rom, cause.0))
play_refused cart save script rom text file left old new (Script fault) drawn cause = (tt, cause.2, (text, tt, cause.1))
play_refused cart save script rom text file left old new (Session fault) drawn cause = (rom, text, (file, left, cause))
play_refused cart save script rom text file left old new (Stream fault) drawn cause = absurd cause
play_refused cart save script rom text file left old new (Recording fault) drawn cause = absurd cause
play_refused cart save script rom text file left old new (Verify fault) drawn cause = absurd cause
play_refused cart save script rom text file left old new (Debug fault) drawn cause = absurd cause
play_refused cart save script rom text file left old new Memory drawn cause = absurd cause
play_refused cart save script rom text file left old new Output drawn cause = absurd (drawn refl)

pub frame_refused : (cart save out : Bor (List ℕ)) (rom : List ℕ) (file left : FileDevice) (old new : Option (List ℕ)) (why : CommandError)
    → IsPlayCause rom [] (call_on (file_disk file) (file_disk left) old new) why → IsRefused (Frame cart save out) (refusal_of_command why) old new
frame_refused cart save out rom file left old new (Cart fault) cause = (tt, cause.1, (rom, cause.0))
frame_refused cart save out rom file left old new (Script fault) cause = (tt, cause.2, ([], refl, cause.1))
frame_refused cart save out rom file left old new (Session fault) cause = (rom, (file, left, cause))
frame_refused cart save out rom file left old new (Stream fault) cause = absurd cause
frame_refused cart save out rom file left old new (Recording fault) cause = absurd cause
frame_refused cart save out rom file left old new (Verify fault) cause = absurd cause
frame_refused cart save out rom file left old new (Debug fault) cause = absurd cause
frame_refused cart save out rom file left old new Memory cause = absurd cause
frame_refused cart save out rom file left old new Output cause = (tt, (rom, (file, left, cause)))

pub trace_refused : (cart save : Bor (List ℕ)) (count : ℕ) (rom : List ℕ) (file left : FileDevice) (old new : Option (List ℕ)) (why : CommandError)
    → IsTraceCause rom count (call_on (file_disk file) (file_disk left) old new) why → IsRefused (TraceOf cart save count) (refusal_of_command why) old new
trace_refused cart save count rom file left old new (Cart fault) cause = (tt, cause.1, (rom, cause.0))
trace_refused cart save count rom file left old new (Script fault) cause = absurd cause
trace_refused cart save count rom file left old new (Session fault) cause = (rom, (file, left, cause))
trace_refused cart save count rom file left old new (Stream fault) cause = absurd cause
trace_refused cart save count rom file left old new (Recording fault) cause = absurd cause
trace_refused cart save count rom file left old new (Verify fault) cause = absurd cause
trace_refused cart save count rom file left old new (Debug fault) cause = absurd cause
trace_refused cart save count rom file left old new Memory cause = (tt, cause.1)
trace_refused cart save count rom file left old new Output cause = (tt, (rom, (file, left, cause)))

pub show_refused : (cart save : Bor (List ℕ)) (rom : List ℕ) (file : FileDevice) (old new : Option (List ℕ)) (why : CommandError)
    → IsShowCause rom (file_disk file) old new why → IsRefused (ShowOf cart save) (refusal_of_command why) old new
show_refused cart save rom file old new (Cart fault) cause = (tt, cause.1, (rom, cause.0))
show_refused cart save rom file old new (Script fault) cause = absurd cause
show_refused cart save rom file old new (Session why) cause = (rom, (file, cause))
show_refused cart save rom file old new (Stream fault) cause = absurd cause
show_refused cart save rom file old new (Recording fault) cause = absurd cause
show_refused cart save rom file old new (Verify fault) cause = absurd cause
show_refused cart save rom file old new (Debug fault) cause = absurd cause
show_refused cart save rom file old new Memory cause = absurd cause
show_refused cart save rom file old new Output cause = (tt, (rom, (file, cause)))

pub recorded_refused : (cart recording : Bor (List ℕ)) (rom : List ℕ) (file : FileDevice) (old new : Option (List ℕ)) (why : CommandError)
    → IsScriptCause rom (file_disk file) old new why → IsRefused (RecordedOf cart recording) (refusal_of_command why) old new
recorded_refused cart recording rom file old new (Cart fault) cause = (tt, cause.1, (rom, cause.0))
recorded_refused cart recording rom file old new (Script fault) cause = absurd cause
recorded_refused cart recording rom file old new (Session fault) cause = absurd cause
recorded_refused cart recording rom file old new (Stream fault) cause = absurd cause
recorded_refused cart recording rom file old new (Recording why) cause = (rom, (file, cause))
recorded_refused cart recording rom file old new (Verify fault) cause = absurd cause
recorded_refused cart recording rom file old new (Debug fault) cause = absurd cause
recorded_refused cart recording rom file old new Memory cause = absurd cause
recorded_refused cart recording rom file old new Output cause = (tt, (rom, (file, cause)))

pub verify_refused : (cart save recording : Bor (List ℕ)) (rom : List ℕ) (game tape : FileDevice) (old new : Option (List ℕ)) (why : CommandError)
    → IsLineCause rom (file_disk game) (file_disk tape) old new why → IsRefused (VerifyOf cart save recording) (refusal_of_command why) old new
verify_refused cart save recording rom game tape old new (Cart fault) cause = (tt, cause.1, (rom, cause.0))
verify_refused cart save recording rom game tape old new (Script fault) cause = absurd cause
verify_refused cart save recording rom game tape old new (Session fault) cause = absurd cause
verify_refused cart save recording rom game tape old new (Stream fault) cause = absurd cause
verify_refused cart save recording rom game tape old new (Recording fault) cause = absurd cause
verify_refused cart save recording rom game tape old new (Verify (Save why)) cause = (rom, (game, tape, cause))
verify_refused cart save recording rom game tape old new (Verify (Taped why)) cause = (rom, (game, tape, cause))
verify_refused cart save recording rom game tape old new (Verify (Behind count)) cause = (rom, (game, tape, cause))
verify_refused cart save recording rom game tape old new (Verify (Ahead count)) cause = absurd cause.2
verify_refused cart save recording rom game tape old new (Verify Lacked) cause = (tt, cause.1)
verify_refused cart save recording rom game tape old new (Verify Differ) cause = (rom, (game, tape, cause))
verify_refused cart save recording rom game tape old new (Debug fault) cause = absurd cause
verify_refused cart save recording rom game tape old new Memory cause = absurd cause
verify_refused cart save recording rom game tape old new Output cause = (tt, (rom, (game, tape, cause)))
