-- How far a session goes.
use Rattle.std.specs.Prelude.{◌≡◌, ◌≤◌, ◌+◌, ℕ, List, ◌++◌, length, Ok, Err}
use Rattle.machine.specs.Machine.{MachineState, Input, after}
use Rattle.sector_device.specs.DiskState.{DiskState, HasAnswered}
use Rattle.sector_device.specs.declared.device.SectorDevice.{Ghosts}
use Rattle.input_entries.specs.declared.Entry.{Entry}
use Rattle.session.specs.Calls.{faults_after}
use Rattle.session.specs.Stands.{Position}
use Rattle.session.specs.Accessors.{device_of, machine_of, pending_of, acknowledged_of}
use Rattle.session.specs.declared.error.SessionError.{SessionError}
use Rattle.session.specs.declared.session.Session.{Session}
use Rattle.playing.specs.Played.{IsPlayed, IsStop, Advanced, Stopped}

-- where a session is
pub record Place : Type 1 where
  pub disk : DiskState
  pub acknowledged : ℕ
  pub pending : List Entry
  pub machine : MachineState

abbrev pub all_of : Place → ℕ
all_of p = p.acknowledged + length p.pending

module _ {D : Type 0} {disk : Ghosts D} where
  abbrev pub place : Session D disk → Place
  place s = record { disk = disk.disk (device_of s); acknowledged = acknowledged_of s; pending = pending_of s; machine = machine_of s }

-- these inputs from there were given to the session there, which saved the first of them
abbrev pub IsPlayedAt : (rom : List ℕ) → Place → Position → List Input → Type 0
IsPlayedAt rom p from given = IsPlayed rom p.disk p.acknowledged p.pending p.machine from given

-- these inputs were given
pub record SaveAdvances (old new : Place) (inputs : List Input) : Type 0 where
  -- a play goes on: each image at each moment stands for some of its inputs, with these after them
  pub going : (rom : List ℕ) (from : Position) (given : List Input) → IsPlayedAt rom old from given
      → Advanced rom old.disk new.disk new.acknowledged new.pending new.machine from (given ++ inputs)
  -- the machine is the one after these inputs
  pub machine_is : new.machine ≡ after old.machine inputs
  -- each of them is counted
  pub all_is : all_of new ≡ all_of old + length inputs
  -- what was saved stays saved
  pub later : old.acknowledged ≤ new.acknowledged
  -- no call of the device failed
  pub calls : HasAnswered {T = Unit {0}} faults_after old.disk new.disk (Ok tt)
  -- the cartridge stays
  pub rom : new.machine.processor.memory.banks.rom ≡ old.machine.processor.memory.banks.rom

-- one of these inputs, or a save or a line among them, was refused
pub record SaveStops (old new : Place) (inputs : List Input) (why : SessionError) : Type 0 where
  -- a play stops: each image at each moment stands for some of its inputs and of these, and each that is left at least for what is saved
  pub stopped : (rom : List ℕ) (from : Position) (given : List Input) → IsPlayedAt rom old from given
      → Stopped rom old.disk new.disk new.acknowledged from (given ++ inputs)
  -- the generations are used up, a call failed, these inputs are more than can be counted, or a line failed
  pub cause : IsStop why (all_of old + length inputs) new.disk
  -- what was saved stays saved
  pub later : old.acknowledged ≤ new.acknowledged
  -- a call of the device failed if that is the cause, and else none
  pub calls : HasAnswered {T = Unit {0}} faults_after old.disk new.disk (Err why)
  -- the cartridge stays
  pub rom : new.machine.processor.memory.banks.rom ≡ old.machine.processor.memory.banks.rom
