-- What was told of a file that is begun, of the program.
use Rattle.std.proofs.Common.{List, ℕ, Option, Result, Ok, Err}
use Rattle.std.specs.Prelude.{IfErr, OnOk}
use Rattle.std.specs.Io.KnownBytes.{Appends}
use Rattle.exact_text.specs.Written.{AppendsProperPrefix}
use Rattle.command_line.specs.declared.Request.{Request}
use Rattle.gbkeep.specs.Beginning.{IsUntold, begun_line}
use Rattle.gbkeep.specs.Program.{IsServed}
use Rattle.gbkeep.specs.Request.{HasAddress, HasDevice, IsDone, IsOutputRefused}
use Rattle.refusals.specs.declared.refusal.Refusal.{Refusal}
use Rattle.refusals.specs.declared.refusal.Refusal.TheVariants.{Cart, Memory, File, Output, Address, Word, Device, Script, Session, Line, Input, Snapshot, NoState, OtherState, Recording, Behind, Ahead, Differ, OtherRecording, RecordedGame, TestFailed, TestUndecided, NoBattery, BatteryLength, WrongLength, NoTime}

pub begun_served : (request : Request) (old new : Option (List ℕ)) → HasAddress request → HasDevice request
    → (Appends old new begun_line → IsDone request old new) → (AppendsProperPrefix old new begun_line → IsOutputRefused request old new)
    → (r : Result Unit Refusal) → OnOk r (Appends old new begun_line) → IfErr r (IsUntold old new) → IsServed request r old new
begun_served request old new address device done cut (Ok u) written cause = done written
begun_served request old new address device done cut (Err Output) written cause = (address, cut cause)
begun_served request old new address device done cut (Err (Device fault)) written cause = (device, cause)
begun_served request old new address device done cut (Err (Cart fault)) written cause = absurd cause
begun_served request old new address device done cut (Err Memory) written cause = absurd cause
begun_served request old new address device done cut (Err File) written cause = absurd cause
begun_served request old new address device done cut (Err Address) written cause = absurd cause
begun_served request old new address device done cut (Err Word) written cause = absurd cause
begun_served request old new address device done cut (Err (Script fault)) written cause = absurd cause
begun_served request old new address device done cut (Err (Session fault)) written cause = absurd cause
begun_served request old new address device done cut (Err (Line number)) written cause = absurd cause
begun_served request old new address device done cut (Err Input) written cause = absurd cause
begun_served request old new address device done cut (Err NoState) written cause = absurd cause
begun_served request old new address device done cut (Err (Snapshot why)) written cause = absurd cause
begun_served request old new address device done cut (Err WrongLength) written cause = absurd cause
begun_served request old new address device done cut (Err NoTime) written cause = absurd cause
begun_served request old new address device done cut (Err OtherState) written cause = absurd cause
begun_served request old new address device done cut (Err (Recording fault)) written cause = absurd cause
begun_served request old new address device done cut (Err (Behind count)) written cause = absurd cause
begun_served request old new address device done cut (Err (Ahead count)) written cause = absurd cause
begun_served request old new address device done cut (Err Differ) written cause = absurd cause
begun_served request old new address device done cut (Err OtherRecording) written cause = absurd cause
begun_served request old new address device done cut (Err RecordedGame) written cause = absurd cause
begun_served request old new address device done cut (Err TestFailed) written cause = absurd cause
begun_served request old new address device done cut (Err TestUndecided) written cause = absurd cause
begun_served request old new address device done cut (Err NoBattery) written cause = absurd cause
begun_served request old new address device done cut (Err (BatteryLength found needed)) written cause = absurd cause
