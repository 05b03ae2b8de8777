-- Why a battery file is not taken, of the program.
use Rattle.std.proofs.Common.{◌≡◌, Bor, List, ℕ, Option, false, subst, sym}
use Rattle.std.specs.Io.KnownBytes.{Keeps}
use Rattle.cartridge.specs.Accepted.{IsAccepted}
use Rattle.battery_files.specs.Importing.{IsImportCause, is_taken_length}
use Rattle.battery_files.specs.Exporting.{IsExportCause}
use Rattle.sector_device.specs.FileDevice.{file_disk}
use Rattle.sector_device.specs.declared.file.FileDevice.{FileDevice}
use Rattle.command_line.specs.declared.Request.TheVariants.{Export, Import}
use Rattle.gbkeep.specs.Program.{IsRefused}
use Rattle.refusals.specs.declared.refusal.Refusal.{Refusal}
use Rattle.refusals.specs.declared.refusal.Refusal.TheVariants.{Cart, Memory, File, Output, Address, Word, Device, Script, Session, Line, Input, Snapshot, NoState, OtherState, Recording, Behind, Ahead, Differ, OtherRecording, RecordedGame, TestFailed, TestUndecided, NoBattery, BatteryLength, WrongLength, NoTime}

pub accepted_image : (rom image : List ℕ) → image ≡ rom → IsAccepted rom → IsAccepted image
accepted_image rom image is accepted = subst (λ (r : List ℕ). IsAccepted r) (sym is) accepted

pub battery_refused : (rom contents : List ℕ) → IsAccepted rom → (cart battery save : Bor (List ℕ)) (sectors : Option ℕ) (old new : Option (List ℕ)) → Keeps old new → (fault : Refusal) → IsImportCause rom contents fault
    → IsRefused (Import cart battery save sectors) fault old new
battery_refused rom contents accepted cart battery save sectors old new keeps Memory is = (tt, keeps)
battery_refused rom contents accepted cart battery save sectors old new keeps NoBattery is = (keeps, (rom, accepted, is))
battery_refused rom contents accepted cart battery save sectors old new keeps (BatteryLength found needed) is = (keeps, (rom, accepted, is.0, subst (λ (n : ℕ). is_taken_length rom n ≡ false) (sym is.2) is.1, is.3))
battery_refused rom contents accepted cart battery save sectors old new keeps (Cart why) is = absurd is
battery_refused rom contents accepted cart battery save sectors old new keeps File is = absurd is
battery_refused rom contents accepted cart battery save sectors old new keeps Output is = absurd is
battery_refused rom contents accepted cart battery save sectors old new keeps Address is = absurd is
battery_refused rom contents accepted cart battery save sectors old new keeps Word is = absurd is
battery_refused rom contents accepted cart battery save sectors old new keeps (Device why) is = absurd is
battery_refused rom contents accepted cart battery save sectors old new keeps (Script why) is = absurd is
battery_refused rom contents accepted cart battery save sectors old new keeps (Session why) is = absurd is
battery_refused rom contents accepted cart battery save sectors old new keeps (Line number) is = absurd is
battery_refused rom contents accepted cart battery save sectors old new keeps Input is = absurd is
battery_refused rom contents accepted cart battery save sectors old new keeps NoState is = absurd is
battery_refused rom contents accepted cart battery save sectors old new keeps (Snapshot why) is = absurd is
battery_refused rom contents accepted cart battery save sectors old new keeps WrongLength is = absurd is
battery_refused rom contents accepted cart battery save sectors old new keeps NoTime is = absurd is
battery_refused rom contents accepted cart battery save sectors old new keeps OtherState is = absurd is
battery_refused rom contents accepted cart battery save sectors old new keeps (Recording why) is = absurd is
battery_refused rom contents accepted cart battery save sectors old new keeps (Behind count) is = absurd is
battery_refused rom contents accepted cart battery save sectors old new keeps (Ahead count) is = absurd is
battery_refused rom contents accepted cart battery save sectors old new keeps Differ is = absurd is
battery_refused rom contents accepted cart battery save sectors old new keeps OtherRecording is = absurd is
battery_refused rom contents accepted cart battery save sectors old new keeps RecordedGame is = absurd is
battery_refused rom contents accepted cart battery save sectors old new keeps TestFailed is = absurd is
battery_refused rom contents accepted cart battery save sectors old new keeps TestUndecided is = absurd is

-- why there is no battery file, of the program
module _ (cart save out : Bor (List ℕ)) (rom : List ℕ) (file : FileDevice) (old new : Option (List ℕ)) (keeps : Keeps old new) where
  pub export_refused : (fault : Refusal) → IsExportCause rom (file_disk file) fault → IsRefused (Export cart save out) fault old new
  export_refused (Cart why) is = (tt, keeps, (rom, is))
  export_refused (Snapshot why) is = absurd is
  export_refused (Script why) is = absurd is
  export_refused (Session why) is = (keeps, (rom, (file, is)))
  export_refused (Recording why) is = absurd is
  export_refused (Device why) is = absurd is
  export_refused Memory is = absurd is
  export_refused Output is = absurd is
  export_refused File is = absurd is
  export_refused Address is = absurd is
  export_refused Word is = absurd is
  export_refused (Line number) is = absurd is
  export_refused Input is = absurd is
  export_refused NoState is = absurd is
  export_refused OtherState is = absurd is
  export_refused (Behind count) is = absurd is
  export_refused (Ahead count) is = absurd is
  export_refused Differ is = absurd is
  export_refused OtherRecording is = absurd is
  export_refused RecordedGame is = absurd is
  export_refused TestFailed is = absurd is
  export_refused TestUndecided is = absurd is
  export_refused NoBattery is = (keeps, (rom, is.0, is.1))
  export_refused (BatteryLength found needed) is = absurd is
  export_refused WrongLength is = absurd is
  export_refused NoTime is = absurd is
