-- A state that is taken behind a line.
use Rattle.std.specs.Prelude.{◌≡◌, ◌<◌, ◌+◌, ℕ, Bool, true, false, List, ◌++◌, length, Option}
use Rattle.std.specs.Io.KnownBytes.{Consumes, IsAtEnd}
use Rattle.input_lines.specs.declared.taking.Taken.{Taken}
use Rattle.input_lines.specs.declared.taking.Taken.TheVariants.{All as AllTaken, End as EndMet, Failed as TakeFailed}
use Rattle.state_header.specs.States.{header_length, header_of, IsLegalState, IsOfAnotherRom}
use Rattle.state_header.specs.declared.Named.{Named}
use Rattle.state_header.specs.declared.Named.TheVariants.{Same as NamesSame, Other as NamesOther}
use Rattle.machine_lines.specs.declared.taking.TakenState.{TakenState}
use Rattle.machine_lines.specs.declared.taking.TakenState.TheVariants.{Snapshot, Other, Nothing, End, Failed}

-- so many bytes were taken, of which this holds
pub record TakesAll (P : List ℕ → Type 0) (size : ℕ) (old new : Option (List ℕ)) : Type 0 where
  pub bytes : List ℕ
  pub long : length bytes ≡ size
  pub are : P bytes
  pub took : Consumes old new bytes

-- fewer were read
pub record TakesFewer (size : ℕ) (old since : Option (List ℕ)) : Type 0 where
  pub bytes : List ℕ
  pub few : length bytes < size
  pub took : Consumes old since bytes

-- no state of this ROM, and of no other one
abbrev pub IsNoState : (rom bytes : List ℕ) → Type 0
IsNoState rom bytes = (¬ IsLegalState rom bytes) × (¬ IsOfAnotherRom rom bytes)

-- The snapshot of a state of this ROM, of which only the header was looked at; all bytes, which are a state of another ROM, or none; or fewer, up
-- to the end or to a read that failed.
abbrev pub HasTakenState : TakenState → (rom : List ℕ) → (size : ℕ) → (snapshot : List ℕ) → (old new since : Option (List ℕ)) → Type 0
HasTakenState Snapshot rom size snapshot old new since = (size ≡ header_length + length snapshot) × Consumes old new (header_of rom ++ snapshot)
HasTakenState Other rom size snapshot old new since = TakesAll (IsOfAnotherRom rom) size old new
HasTakenState Nothing rom size snapshot old new since = TakesAll (IsNoState rom) size old new
HasTakenState End rom size snapshot old new since = TakesFewer size old since × IsAtEnd since
HasTakenState Failed rom size snapshot old new since = TakesFewer size old since

-- ---- behind a header

-- how bytes were taken, if this is how all of them are
abbrev pub unless_fewer : Taken → TakenState → TakenState
unless_fewer AllTaken all = all
unless_fewer EndMet all = End
unless_fewer TakeFailed all = Failed

-- all bytes of a state that is not taken, by what its header names
abbrev pub refused_by : Named → TakenState
refused_by NamesOther = Other
refused_by named = Nothing

abbrev pub is_same : Named → Bool
is_same NamesSame = true
is_same named = false

-- what was taken behind a header, of so many bytes in all
abbrev pub IsTakenBehind : TakenState → (rom header : List ℕ) → (rest : ℕ) → (snapshot : List ℕ) → (old new since : Option (List ℕ)) → Type 0
IsTakenBehind Snapshot rom header rest snapshot old new since = (header ≡ header_of rom) × (rest ≡ length snapshot) × Consumes old new snapshot
IsTakenBehind Other rom header rest snapshot old new since = TakesAll (λ bytes. IsOfAnotherRom rom (header ++ bytes)) rest old new
IsTakenBehind Nothing rom header rest snapshot old new since = TakesAll (λ bytes. IsNoState rom (header ++ bytes)) rest old new
IsTakenBehind End rom header rest snapshot old new since = TakesFewer rest old since × IsAtEnd since
IsTakenBehind Failed rom header rest snapshot old new since = TakesFewer rest old since
