-- A state: 40 bytes that say that it is one, and of which ROM; and a machine's snapshot behind them.
use Rattle.std.specs.Prelude.{◌≡◌, ◌≢◌, ◌≤◌, ◌+◌, ℕ, List, ◌++◌, codes, length, take, drop}
use Rattle.sha2.specs.Sha256.{sha256}
use Rattle.machine.specs.Machine.{MachineState}
use Rattle.snapshot.specs.Encoding.{encoded, snapshot_length}
use Rattle.snapshot.specs.Legal.{IsLegalSnapshot}
use Rattle.state_header.specs.declared.Named.{Named}
use Rattle.state_header.specs.declared.Named.TheVariants.{Same, Other, Nothing}

-- ---- the bytes

-- bytes 0 to 7 of each state
abbrev pub mark : List ℕ
mark = codes "GBSTATE1"

abbrev pub header_length : ℕ
header_length = 40

-- the mark, and in bytes 8 to 39 the SHA-256 of the ROM
unfoldable pub header_of : (rom : List ℕ) → List ℕ
header_of rom = mark ++ sha256 rom

-- of a machine with its own ROM
abbrev pub state_of : MachineState → List ℕ
state_of m = header_of m.processor.memory.banks.rom ++ encoded m

-- by the bytes of cartridge RAM
abbrev pub state_length : ℕ → ℕ
state_length ram = header_length + snapshot_length ram

-- ---- which bytes are a state

-- what stands behind the header
abbrev pub snapshot_in : List ℕ → List ℕ
snapshot_in bytes = drop header_length bytes

-- a state of this ROM
pub record IsLegalState (rom bytes : List ℕ) : Type 0 where
  pub header : take header_length bytes ≡ header_of rom
  pub snapshot : IsLegalSnapshot rom (snapshot_in bytes)

-- it says that it is a state, and names another ROM; no matter what stands behind the header
pub record IsOfAnotherRom (rom bytes : List ℕ) : Type 0 where
  pub whole : header_length ≤ length bytes
  pub marked : take 8 bytes ≡ mark
  pub other : take header_length bytes ≢ header_of rom

-- what a header names: this ROM, another one, or none, where it is not that of a state
abbrev pub IsNamed : Named → (rom header : List ℕ) → Type 0
IsNamed Same rom header = header ≡ header_of rom
IsNamed Other rom header = (take 8 header ≡ mark) × (header ≢ header_of rom)
IsNamed Nothing rom header = take 8 header ≢ mark
