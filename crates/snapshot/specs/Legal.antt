-- Which machines are of an image, which snapshots are legal, and the first fault of a snapshot that is not.
use Rattle.std.specs.Prelude.{◌≡◌, ℕ, ◌≤◌, true, false, List, length}
use Rattle.std.specs.List.{All, Contains}
use Rattle.cartridge.specs.Header.{has_rumble, ram_length_of}
use Rattle.machine.specs.Machine.{MachineState}
use Rattle.machine.specs.Legal.{IsLegalMachine}
use Rattle.snapshot.specs.declared.field.SnapshotField.{SnapshotField}
use Rattle.snapshot.specs.declared.error.SnapError.{SnapError}
use Rattle.snapshot.specs.declared.error.SnapError.TheVariants.{SnapLength, Field, Memory}
use Rattle.snapshot.specs.Encoding.{snapshot_length}
use Rattle.snapshot.specs.Table.{is_legal, kind_of_image, table_of}

-- ---- machines

-- a legal machine with this image as its ROM, and the kind, the motor and the length of RAM that the image asks for
pub record IsMachineOf (image : List ℕ) (m : MachineState) : Type 0 where
  pub legal : IsLegalMachine m
  pub rom : m.processor.memory.banks.rom ≡ image
  pub kind : m.processor.memory.banks.state.kind ≡ kind_of_image image
  pub rumble : m.processor.memory.banks.rumble ≡ has_rumble image
  pub ram_length : length m.processor.memory.banks.ram ≡ ram_length_of image

-- a machine with this image as its ROM, and the kind, the motor and the length of RAM that the image asks for
pub record IsOfImage (image : List ℕ) (m : MachineState) : Type 0 where
  pub rom : m.processor.memory.banks.rom ≡ image
  pub kind : m.processor.memory.banks.state.kind ≡ kind_of_image image
  pub rumble : m.processor.memory.banks.rumble ≡ has_rumble image
  pub ram_length : length m.processor.memory.banks.ram ≡ ram_length_of image

-- ---- snapshots

abbrev pub HasLength : (image bytes : List ℕ) → Type 0
HasLength image bytes = length bytes ≡ snapshot_length (ram_length_of image)

-- as long as the snapshots of this cartridge, and each field legal
pub record IsLegalSnapshot (image bytes : List ℕ) : Type 0 where
  pub length : HasLength image bytes
  pub fields : All (λ field. is_legal field bytes ≡ true) (table_of image)

-- the least offset in a table whose field is not legal
pub record IsFirstIllegal (fields : List SnapshotField) (bytes : List ℕ) (offset : ℕ) : Type 0 where
  pub field : SnapshotField
  pub listed : Contains fields field
  pub here : field.offset ≡ offset
  pub illegal : is_legal field bytes ≡ false
  pub least : All (λ other. is_legal other bytes ≡ false → offset ≤ other.offset) fields

-- why bytes are no legal snapshot of this image: their length; else the first field that is not legal
abbrev pub IsFault : (image bytes : List ℕ) → SnapError → Type 0
IsFault image bytes (SnapLength n) = (n ≡ length bytes) × (¬ HasLength image bytes)
IsFault image bytes (Field offset) = HasLength image bytes × IsFirstIllegal (table_of image) bytes offset
IsFault image bytes Memory = ⊥

-- why bytes give no machine of this image: their length; else the first field that is not legal; and out of memory only
-- where the snapshot is legal
abbrev pub IsRefusal : (image bytes : List ℕ) → SnapError → Type 0
IsRefusal image bytes (SnapLength n) = (n ≡ length bytes) × (¬ HasLength image bytes)
IsRefusal image bytes (Field offset) = HasLength image bytes × IsFirstIllegal (table_of image) bytes offset
IsRefusal image bytes Memory = IsLegalSnapshot image bytes
