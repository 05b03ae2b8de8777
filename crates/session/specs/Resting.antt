-- What a session knows of its device and of its machine; a reader needs none of this.
use Rattle.std.specs.Prelude.{◌≡◌, ◌≤◌, ℕ, List, [], length, Bool, true, false}
use Rattle.std.proofs.Props.{props}
use Rattle.cartridge.specs.Header.{has_rumble, ram_length_of}
use Rattle.machine.specs.Machine.{MachineState, after}
use Rattle.snapshot.specs.Encoding.{snapshot_length}
use Rattle.snapshot.specs.Table.{kind_of_image}
use Rattle.sector_device.specs.DiskState.{DiskState}
use Rattle.log_format.specs.Content.{content, generation_in, need}
use Rattle.log_format.specs.Found.{log_of}
use Rattle.input_entries.specs.Inputs.{inputs}
use Rattle.input_entries.specs.declared.Entry.{Entry}
use Rattle.input_entries.specs.declared.StoredEntry.{StoredEntry}
use Rattle.session.specs.Stands.{IsAtRest, Position, StandsAt}
use Rattle.session.specs.Inputs.{can_be_logged, inputs_of}

-- kind, motor and length of RAM are those that its ROM asks for
pub record IsOfItsRom (m : MachineState) : Type 0 where
  pub kind : m.processor.memory.banks.state.kind ≡ kind_of_image m.processor.memory.banks.rom
  pub rumble : m.processor.memory.banks.rumble ≡ has_rumble m.processor.memory.banks.rom
  pub ram_length : length m.processor.memory.banks.ram ≡ ram_length_of m.processor.memory.banks.rom

pub own_prop : (m : MachineState) → IsProp (IsOfItsRom m)
own_prop m = hlevel props

-- the machine after the saved inputs leads to this one, where a log can hold the unsaved ones
abbrev pub LeadsTo : (saved : MachineState) → List Entry → (machine : MachineState) → Type 0
LeadsTo saved pending machine = can_be_logged pending ≡ true → after saved (inputs_of pending) ≡ machine

pub leads_prop : (saved : MachineState) (pending : List Entry) (machine : MachineState) → IsProp (LeadsTo saved pending machine)
leads_prop saved pending machine = hlevel props

pub record Rests (rom : List ℕ) (now : DiskState) (log : List StoredEntry) (saved : Position) : Type 0 where
  pub stood : StandsAt rom now saved
  pub log_is : log_of (content now.sectors) ≡ log

abbrev pub RestsUnlessBroken : (rom : List ℕ) → DiskState → List StoredEntry → (saved : Position) → Bool → Type 0
RestsUnlessBroken rom now log saved broken = broken ≡ false → now.honest → Rests rom now log saved

pub rests_prop : (rom : List ℕ) (now : DiskState) (log : List StoredEntry) (saved : Position) (broken : Bool) → IsProp (RestsUnlessBroken rom now log saved broken)
rests_prop rom now log saved broken = hlevel props

-- what was seen of a device: it rests at this machine, so many inputs are in its log, and it can hold a snapshot again
pub record IsLookedAt (now : DiskState) (generation count logged : ℕ) (machine : MachineState) : Type 0 where
  pub at_rest : IsAtRest machine.processor.memory.banks.rom now count [] machine
  pub generation_is : generation_in now.sectors ≡ generation
  pub logged_is : length (inputs (log_of (content now.sectors))) ≡ logged
  pub enough : need (snapshot_length (ram_length_of machine.processor.memory.banks.rom)) ≤ length now.sectors

abbrev pub LooksAt : DiskState → (generation count logged : ℕ) → MachineState → Type 0
LooksAt now generation count logged machine = now.honest → IsLookedAt now generation count logged machine

pub looks_prop : (now : DiskState) (generation count logged : ℕ) (machine : MachineState) → IsProp (LooksAt now generation count logged machine)
looks_prop now generation count logged machine = hlevel props
