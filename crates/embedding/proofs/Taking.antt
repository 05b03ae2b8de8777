-- Why a battery file is not taken, of a game that was to begin with it.
use Rattle.std.proofs.Common.{ℕ, List}
use Rattle.cartridge.specs.Accepted.{IsAccepted}
use Rattle.battery_files.specs.Importing.{IsImportCause as IsFileCause}
use Rattle.refusals.specs.declared.refusal.Refusal.{Refusal}
use Rattle.refusals.specs.declared.refusal.Refusal.TheVariants.{Cart, Snapshot, Script, Session, Recording, Device, Memory, Output, File, Address, Word, Line, Input, NoState, OtherState, Behind, Ahead, Differ, OtherRecording, RecordedGame, TestFailed, TestUndecided, NoBattery, BatteryLength, WrongLength, NoTime}
use Rattle.embedding.specs.Games.{IsImportCause}

module _ (rom battery : List ℕ) (sectors : ℕ) (accepted : IsAccepted rom) where
  pub file_refused : (why : Refusal) → IsFileCause rom battery why → IsImportCause rom battery sectors why
  file_refused (Cart why) is = absurd is
  file_refused (Snapshot why) is = absurd is
  file_refused (Script why) is = absurd is
  file_refused (Session why) is = absurd is
  file_refused (Recording why) is = absurd is
  file_refused (Device why) is = absurd is
  file_refused Memory is = (accepted, is.0, is.1)
  file_refused Output is = absurd is
  file_refused File is = absurd is
  file_refused Address is = absurd is
  file_refused Word is = absurd is
  file_refused (Line number) is = absurd is
  file_refused Input is = absurd is
  file_refused NoState is = absurd is
  file_refused OtherState is = absurd is
  file_refused (Behind count) is = absurd is
  file_refused (Ahead count) is = absurd is
  file_refused Differ is = absurd is
  file_refused OtherRecording is = absurd is
  file_refused RecordedGame is = absurd is
  file_refused TestFailed is = absurd is
  file_refused TestUndecided is = absurd is
  file_refused NoBattery is = (accepted, is)
  file_refused (BatteryLength found needed) is = (accepted, is.0, is.1, is.2, is.3)
  file_refused WrongLength is = absurd is
  file_refused NoTime is = absurd is
