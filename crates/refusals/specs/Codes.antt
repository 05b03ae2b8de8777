-- The code of each refusal in C; 0 is that of a call that was done.
use Rattle.std.specs.Prelude.{ℕ}
use Rattle.cartridge.specs.declared.error.CartError.{CartError}
use Rattle.cartridge.specs.declared.error.CartError.TheVariants as cart
use Rattle.snapshot.specs.declared.error.SnapError.{SnapError}
use Rattle.snapshot.specs.declared.error.SnapError.TheVariants as snap
use Rattle.script.specs.declared.error.ScriptError.{ScriptError}
use Rattle.script.specs.declared.error.ScriptError.TheVariants as script
use Rattle.session.specs.declared.error.Damage.{Damage}
use Rattle.session.specs.declared.error.Damage.TheVariants as damage
use Rattle.session.specs.declared.error.SessionError.{SessionError}
use Rattle.session.specs.declared.error.SessionError.TheVariants as session
use Rattle.recording.specs.declared.fault.RecordingFault.{RecordingFault}
use Rattle.recording.specs.declared.fault.RecordingFault.TheVariants as recording
use Rattle.sector_device.specs.declared.device.DeviceFault.{DeviceFault}
use Rattle.sector_device.specs.declared.device.DeviceFault.TheVariants as device
use Rattle.refusals.specs.declared.refusal.Refusal.{Refusal}
use Rattle.refusals.specs.declared.refusal.Refusal.TheVariants.{Cart, Snapshot, Script, Session, Recording, Device, Memory, Output, File, Address, Word, Line, Input, NoState, OtherState, Behind, Ahead, Differ, OtherRecording, RecordedGame, TestFailed, TestUndecided, NoBattery, BatteryLength, WrongLength, NoTime}

-- done
abbrev pub done : ℕ
done = 0

abbrev pub cart_code : CartError → ℕ
cart_code (cart.Length bytes) = 2
cart_code (cart.Kind kind) = 3
cart_code (cart.RamCode code) = 4
cart_code (cart.TooManyBanks banks) = 5

-- want of memory, or a damaged snapshot
abbrev pub snapshot_code : SnapError → ℕ
snapshot_code snap.Memory = 1
snapshot_code (snap.SnapLength bytes) = 6
snapshot_code (snap.Field offset) = 6

abbrev pub script_code : ScriptError → ℕ
script_code (script.Script line) = 26
script_code script.Memory = 1

abbrev pub damage_code : Damage → ℕ
damage_code damage.Count = 11
damage_code (damage.Snapshot why) = 6
damage_code (damage.Entry index) = 12

abbrev pub session_code : SessionError → ℕ
session_code session.Memory = 1
session_code session.Device = 7
session_code session.NoSession = 8
session_code (session.TooSmall need) = 9
session_code session.OtherCartridge = 10
session_code (session.Damaged what) = damage_code what
session_code session.GenerationsUsedUp = 13
session_code session.CountFull = 14
session_code session.SaveFirst = 15
session_code session.Broken = 16
session_code session.Output = 19

abbrev pub recording_code : RecordingFault → ℕ
recording_code recording.Memory = 1
recording_code recording.Device = 7
recording_code recording.TooSmall = 9
recording_code recording.NotBlank = 28
recording_code recording.NoRecording = 29
recording_code recording.OtherCartridge = 10
recording_code recording.Full = 30
recording_code recording.Broken = 16

abbrev pub device_code : DeviceFault → ℕ
device_code device.Device = 7
device_code (device.SizeNotSectors bytes) = 17

abbrev pub code_of : Refusal → ℕ
code_of (Cart why) = cart_code why
code_of (Snapshot why) = snapshot_code why
code_of (Script why) = script_code why
code_of (Session why) = session_code why
code_of (Recording why) = recording_code why
code_of (Device why) = device_code why
code_of Memory = 1
code_of Output = 19
code_of File = 23
code_of Address = 24
code_of Word = 25
code_of (Line number) = 26
code_of Input = 27
code_of NoState = 6
code_of OtherState = 10
code_of (Behind count) = 31
code_of (Ahead count) = 32
code_of Differ = 33
code_of OtherRecording = 34
code_of RecordedGame = 35
code_of TestFailed = 36
code_of TestUndecided = 37
code_of NoBattery = 20
code_of (BatteryLength found needed) = 21
code_of WrongLength = 18
code_of NoTime = 22
