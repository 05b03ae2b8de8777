-- The status that the program ends with at a refusal, 1 where it was refused and 2 where its words are not understood; and which refusals tell
-- that a call of a device has failed.
use Rattle.std.specs.Prelude.{ℕ, Bool, true, false}
use Rattle.session.specs.declared.error.SessionError.{SessionError}
use Rattle.session.specs.declared.error.SessionError.TheVariants as session
use Rattle.recording.specs.declared.fault.RecordingFault.{RecordingFault}
use Rattle.recording.specs.declared.fault.RecordingFault.TheVariants as recording
use Rattle.sector_device.specs.declared.device.DeviceFault.{DeviceFault}
use Rattle.sector_device.specs.declared.device.DeviceFault.TheVariants as device
use Rattle.refusals.specs.declared.refusal.Refusal.{Refusal}
use Rattle.refusals.specs.declared.refusal.Refusal.TheVariants.{Cart, Snapshot, Script, Session, Recording, Device, Memory, Output, File, Address, Word, Line, Input, NoState, OtherState, Behind, Ahead, Differ, OtherRecording, RecordedGame, TestFailed, TestUndecided, NoBattery, BatteryLength, WrongLength, NoTime}

abbrev pub status_of : Refusal → ℕ
status_of (Cart why) = 1
status_of (Snapshot why) = 1
status_of (Script why) = 1
status_of (Session why) = 1
status_of (Recording why) = 1
status_of (Device why) = 1
status_of Memory = 1
status_of Output = 1
status_of File = 1
status_of Address = 2
status_of Word = 2
status_of (Line number) = 1
status_of Input = 1
status_of NoState = 1
status_of OtherState = 1
status_of (Behind count) = 1
status_of (Ahead count) = 1
status_of Differ = 1
status_of OtherRecording = 1
status_of RecordedGame = 1
status_of TestFailed = 1
status_of TestUndecided = 1
status_of NoBattery = 1
status_of (BatteryLength found needed) = 1
status_of WrongLength = 1
status_of NoTime = 1

abbrev pub is_device_failure : Refusal → Bool
is_device_failure (Session session.Device) = true
is_device_failure (Recording recording.Device) = true
is_device_failure (Device device.Device) = true
is_device_failure refusal = false
