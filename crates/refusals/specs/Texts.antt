-- What each refusal says. A number in a text is in decimal digits, but for a byte of the header, which is in two hexadecimal ones.
use Rattle.std.specs.Prelude.{ℕ, List, ◌++◌, codes, decimal}
use Rattle.exact_text.specs.Hex.{byte_text}
use Rattle.cartridge.specs.declared.error.CartError.{CartError}
use Rattle.cartridge.specs.declared.error.CartError.TheVariants as cart
use Rattle.snapshot.specs.declared.error.SnapError.{SnapError}
use Rattle.snapshot.specs.declared.error.SnapError.TheVariants as snap
use Rattle.script.specs.declared.error.ScriptError.{ScriptError}
use Rattle.script.specs.declared.error.ScriptError.TheVariants as script
use Rattle.session.specs.declared.error.Damage.{Damage}
use Rattle.session.specs.declared.error.Damage.TheVariants as damage
use Rattle.session.specs.declared.error.SessionError.{SessionError}
use Rattle.session.specs.declared.error.SessionError.TheVariants as session
use Rattle.recording.specs.declared.fault.RecordingFault.{RecordingFault}
use Rattle.recording.specs.declared.fault.RecordingFault.TheVariants as recording
use Rattle.sector_device.specs.declared.device.DeviceFault.{DeviceFault}
use Rattle.sector_device.specs.declared.device.DeviceFault.TheVariants as device
use Rattle.refusals.specs.declared.refusal.Refusal.{Refusal}
use Rattle.refusals.specs.declared.refusal.Refusal.TheVariants.{Cart, Snapshot, Script, Session, Recording, Device, Memory, Output, File, Address, Word, Line, Input, NoState, OtherState, Behind, Ahead, Differ, OtherRecording, RecordedGame, TestFailed, TestUndecided, NoBattery, BatteryLength, WrongLength, NoTime}

-- which rule of a cartridge an image breaks
abbrev pub cart_text : CartError → List ℕ
cart_text (cart.Length bytes) = codes "rom length " ++ decimal bytes
cart_text (cart.Kind kind) = codes "cartridge type " ++ byte_text kind
cart_text (cart.RamCode code) = codes "ram code " ++ byte_text code
cart_text (cart.TooManyBanks banks) = codes "too many banks " ++ decimal banks

abbrev pub snapshot_text : SnapError → List ℕ
snapshot_text (snap.SnapLength bytes) = codes "snapshot length " ++ decimal bytes
snapshot_text (snap.Field offset) = codes "snapshot field " ++ decimal offset
snapshot_text snap.Memory = codes "no memory"

abbrev pub script_text : ScriptError → List ℕ
script_text (script.Script line) = codes "script line " ++ decimal line
script_text script.Memory = codes "no memory"

abbrev pub damage_text : Damage → List ℕ
damage_text damage.Count = codes "damaged count"
damage_text (damage.Snapshot why) = codes "damaged snapshot"
damage_text (damage.Entry index) = codes "damaged entry " ++ decimal index

abbrev pub session_text : SessionError → List ℕ
session_text session.Memory = codes "no memory"
session_text session.Device = codes "device failed"
session_text session.NoSession = codes "no session"
session_text (session.TooSmall need) = codes "too small, " ++ (decimal need ++ codes " sectors needed")
session_text session.OtherCartridge = codes "other cartridge"
session_text (session.Damaged what) = damage_text what
session_text session.GenerationsUsedUp = codes "generations used up"
session_text session.Broken = codes "broken, open it again"
session_text session.SaveFirst = codes "save first"
session_text session.CountFull = codes "count full"
session_text session.Output = codes "output failed"

abbrev pub recording_text : RecordingFault → List ℕ
recording_text recording.Memory = codes "no memory"
recording_text recording.Device = codes "device failed"
recording_text recording.TooSmall = codes "too small, 2 sectors needed"
recording_text recording.NotBlank = codes "not blank"
recording_text recording.NoRecording = codes "no recording"
recording_text recording.OtherCartridge = codes "other cartridge"
recording_text recording.Full = codes "recording full"
recording_text recording.Broken = codes "broken, open it again"

abbrev pub device_text : DeviceFault → List ℕ
device_text device.Device = codes "device failed"
device_text (device.SizeNotSectors bytes) = codes "device size " ++ decimal bytes

abbrev pub text_of : Refusal → List ℕ
text_of (Cart why) = cart_text why
text_of (Snapshot why) = snapshot_text why
text_of (Script why) = script_text why
text_of (Session why) = session_text why
text_of (Recording why) = recording_text why
text_of (Device why) = device_text why
text_of Memory = codes "no memory"
text_of Output = codes "output failed"
text_of File = codes "file failed"
text_of Address = codes "address"
text_of Word = codes "a word is not text"
text_of (Line number) = codes "script line " ++ decimal number
text_of Input = codes "input failed"
text_of NoState = codes "damaged snapshot"
text_of OtherState = codes "other cartridge"
text_of (Behind count) = codes "recording behind, " ++ (decimal count ++ codes " inputs")
text_of (Ahead count) = codes "recording ahead, " ++ (decimal count ++ codes " inputs")
text_of Differ = codes "machines differ"
text_of OtherRecording = codes "other recording"
text_of RecordedGame = codes "recorded game: play it by record"
text_of TestFailed = codes "test failed"
text_of TestUndecided = codes "test undecided"
text_of NoBattery = codes "no battery"
text_of (BatteryLength found needed) = codes "battery length " ++ (decimal found ++ (codes ", " ++ (decimal needed ++ codes " needed")))
text_of WrongLength = codes "wrong length"
text_of NoTime = codes "no time"
