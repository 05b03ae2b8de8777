-- What an image stands for: a count of inputs, and the machine after them.
use Rattle.std.specs.Prelude.{◌≡◌, ◌⊎◌, ◌==◌, ◌&&◌, ◌≤◌, ◌<◌, ◌+◌, ◌-◌, ◌^◌, ℕ, List, length, take, Bool, true, false, if◌then◌else◌, nat_lt, Option, Some, None, is_none}
use Rattle.std.specs.List.{list_all}
use Rattle.std.specs.Str.{bytes_eq}
use Rattle.sha2.specs.Sha256.{sha256}
use Rattle.cartridge.specs.Header.{ram_length_of}
use Rattle.machine.specs.Machine.{Input}
use Rattle.machine.specs.Machine.{MachineState, after}
use Rattle.snapshot.specs.Encoding.{snapshot_length}
use Rattle.snapshot.specs.Table.{is_legal, table_of}
use Rattle.snapshot.specs.Reading.{machine_in}
use Rattle.sector_device.specs.DiskState.{DiskState, Settled}
use Rattle.log_format.specs.Content.{ImageContent, Body, content, generation_in}
use Rattle.input_entries.specs.declared.Entry.{Entry}
use Rattle.input_entries.specs.Inputs.{inputs}
use Rattle.log_format.specs.Inputs.{counted, first_wrong}
use Rattle.log_format.specs.declared.content.Header.{Header}
use Rattle.session.specs.Inputs.{logged, inputs_of}

-- a machine, and how many inputs brought it there
pub record Position : Type 0 where
  pub count : ℕ
  pub machine : MachineState

-- the bytes are a legal snapshot for this ROM: as long as its snapshots are, and each field legal
abbrev pub is_snapshot : (rom bytes : List ℕ) → Bool
is_snapshot rom bytes = length bytes == snapshot_length (ram_length_of rom) && list_all (λ field. is_legal field bytes) (table_of rom)

-- the content is this ROM's, no count overflows, the blob is a legal snapshot, and each entry is an input
abbrev pub is_sound : (rom : List ℕ) → Header → Body → Bool
is_sound rom header body =
    bytes_eq header.id (sha256 rom) && (nat_lt (header.base + counted 0 body.log) (2 ^ 64) && (is_snapshot rom body.blob && is_none (first_wrong body.log)))

-- the inputs before the snapshot and those of the log, and the machine of the snapshot after those of the log
abbrev pub position_in : (rom : List ℕ) → Header → Body → Position
position_in rom header body = record {
  count = header.base + length (inputs body.log);
  machine = after (machine_in rom body.blob) (logged body.log);
}

abbrev pub stands_by : (rom : List ℕ) → Header → Option Body → Option Position
stands_by rom header None = None
stands_by rom header (Some body) = if is_sound rom header body then Some (position_in rom header body) else None

-- what a content stands for, with this ROM
unfoldable pub stands : (rom : List ℕ) → Option ImageContent → Option Position
stands rom None = None
stands rom (Some held) = stands_by rom held.header held.body

-- these inputs further
abbrev pub behind : Position → List Input → Position
behind at more = record { count = at.count + length more; machine = after at.machine more }

abbrev pub further : List Input → Option Position → Option Position
further more None = None
further more (Some from) = Some (behind from more)

-- the image stands for this position, or for some of these inputs further, the first of them first
pub record StandsWithin (rom : List ℕ) (from : Option Position) (more : List Input) (image : List (List ℕ)) : Type 0 where
  pub count : ℕ
  pub within : count ≤ length more
  pub is : stands rom (content image) ≡ further (take count more) from

-- While inputs are saved that a log can hold, an image stands for some of them further; while others are, for what it stood for, or for
-- the position behind them all.
abbrev pub StandsBetween : (logged : Bool) → (rom : List ℕ) → (from : Option Position) → (more : List Input) → (behind : Position) → (image : List (List ℕ)) → Type 0
StandsBetween true rom from more behind image = StandsWithin rom from more image
StandsBetween false rom from more behind image = (stands rom (content image) ≡ from) ⊎ (stands rom (content image) ≡ Some behind)

-- ---- at rest

-- One image is left; what it stands for, the pending inputs further, is this count and this machine.
pub record IsAtRest (rom : List ℕ) (now : DiskState) (acknowledged : ℕ) (pending : List Entry) (machine : MachineState) : Type 0 where
  pub settled : Settled now
  pub leads : further (inputs_of pending) (stands rom (content now.sectors)) ≡ Some (record { count = acknowledged + length pending; machine = machine })

-- One image is left, and it stands for this position.
pub record StandsAt (rom : List ℕ) (now : DiskState) (at : Position) : Type 0 where
  pub settled : Settled now
  pub is : stands rom (content now.sectors) ≡ Some at

-- ---- a game taken up

-- what reads give stands for a position, and its generation has a next one: only memory or a failed call refuses it
pub record CanBeTakenUp (rom : List ℕ) (old : DiskState) : Type 0 where
  pub from : Position
  pub stood : stands rom (content old.sectors) ≡ Some from
  pub unworn : generation_in old.sectors < 2 ^ 64 - 1

-- the image stands for what one stood for before
pub record StandsAsBefore (rom : List ℕ) (old : DiskState) (image : List (List ℕ)) : Type 0 where
  pub before : List (List ℕ)
  pub stood : old.image before
  pub is : stands rom (content image) ≡ stands rom (content before)
