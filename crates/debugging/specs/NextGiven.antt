-- The next line of an input, with the bytes that it asks for.
use Rattle.std.specs.Prelude.{◌≡◌, ◌≢◌, ◌⊎◌, ◌<◌, ℕ, List, [], ◌++◌, length, Option, None, Some}
use Rattle.std.specs.Io.KnownBytes.{Consumes, IsAtEnd}
use Rattle.input_lines.specs.Given.{Given, TakesGiven, EndsWithin, IsUnfinished}
use Rattle.state_header.specs.States.{header_of, IsLegalState}
use Rattle.machine_lines.specs.declared.taking.TakenState.{TakenState}
use Rattle.machine_lines.specs.declared.taking.TakenState.TheVariants.{Snapshot, Other, Nothing, End as FewerTaken, Failed as TakeFailed}
use Rattle.debugging.specs.Orders.{asked, restore_of}
use Rattle.debugging.specs.declared.given.NextGiven.{NextGiven}
use Rattle.debugging.specs.declared.given.NextGiven.TheVariants.{Line, State, Wrong, Last, End, Failed}

-- nothing is done for it: a line of more than 512 bytes, or bytes that are not as many as they are said to be, or no state of the cartridge
abbrev pub IsWrong : (rom : List ℕ) → Given → Type 0
IsWrong rom given =
    (512 < length given.line)
    ⊎ ((n : ℕ) × (restore_of given.line ≡ Some n) × ((length given.bytes ≢ n) ⊎ (¬ IsLegalState rom given.bytes)))

abbrev pub IsNextGiven : NextGiven → (rom snapshot : List ℕ) → (old new since : Option (List ℕ)) → Type 0
IsNextGiven (Line text) rom snapshot old new since = (restore_of text.items ≡ None) × TakesGiven asked (record { line = text.items; bytes = [] }) old new
IsNextGiven State rom snapshot old new since =
    (line : List ℕ) × (restore_of line ≡ Some (length (header_of rom ++ snapshot))) × TakesGiven asked (record { line = line; bytes = header_of rom ++ snapshot }) old new
IsNextGiven Wrong rom snapshot old new since = (given : Given) × IsWrong rom given × TakesGiven asked given old new
IsNextGiven Last rom snapshot old new since = (given : Given) × IsWrong rom given × EndsWithin asked given old since
IsNextGiven End rom snapshot old new since = Consumes old since [] × IsAtEnd since
IsNextGiven Failed rom snapshot old new since = (rest : List ℕ) × IsUnfinished asked rest × Consumes old since rest

-- by how the state behind a `restore` was taken
abbrev pub given_by : TakenState → NextGiven
given_by Snapshot = State
given_by Other = Wrong
given_by Nothing = Wrong
given_by FewerTaken = Last
given_by TakeFailed = Failed
