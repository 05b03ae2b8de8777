-- Bytes that are taken behind a line.
use Rattle.std.specs.Prelude.{◌≡◌, ◌<◌, ℕ, List, length, Option}
use Rattle.std.specs.Io.KnownBytes.{Consumes, IsAtEnd}
use Rattle.input_lines.specs.declared.taking.Taken.{Taken}
use Rattle.input_lines.specs.declared.taking.Taken.TheVariants.{All as AllTaken, End as EndMet, Failed as TakeFailed}

-- all of these bytes were taken, or fewer, up to the end or to a read that failed
abbrev pub HasTakenBytes : Taken → (bytes : List ℕ) → (old new : Option (List ℕ)) → Type 0
HasTakenBytes AllTaken bytes old new = Consumes old new bytes
HasTakenBytes EndMet bytes old new = (front : List ℕ) × (length front < length bytes) × Consumes old new front × IsAtEnd new
HasTakenBytes TakeFailed bytes old new = (front : List ℕ) × (length front < length bytes) × Consumes old new front

-- the same of so many bytes, whatever they are
abbrev pub HasSkippedBytes : Taken → (count : ℕ) → (old new : Option (List ℕ)) → Type 0
HasSkippedBytes how count old new = (bytes : List ℕ) × (length bytes ≡ count) × HasTakenBytes how bytes old new
