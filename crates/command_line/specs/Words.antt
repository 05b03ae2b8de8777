-- What the words of the program ask for.
use Rattle.std.specs.Prelude.{◌≡◌, ◌==◌, ◌&&◌, ◌≤◌, ℕ, Bool, false, if◌then◌else◌, List, [], ◌∷◌, codes, pos, slice_get}
use Rattle.std.specs.Prelude.{Option, Some, None, is_some, option_map, Result, Ok, Err}
use Rattle.std.specs.Str.{bytes_eq, chars}
use Rattle.std.specs.Str.Parse.{IsNumeral, signed_digits_value, without_leading_sign}
use Rattle.clap.specs.Words.{kind_of}
use Rattle.clap.specs.declared.error.Error.{Error}
use Rattle.clap.specs.declared.error.kind.ErrorKind.TheVariants.{OutOfMemory}
use Rattle.command_line.specs.declared.Request.{Request}
use Rattle.command_line.specs.declared.Request.TheVariants.{Info, List as Listing, Step, New, Play, Frame, Trace, Stream, Test, NewRecording, Record, Recorded, Verify, Show, Export, Import, Debug}

-- a word, as its bytes
abbrev pub Word : Type 0
Word = List ℕ

-- a hyphen that a character follows
abbrev pub is_option : Word → Bool
is_option [] = false
is_option (first ∷ rest) = (first == 45) && is_some (slice_get (chars rest) 0)

-- The operands that words are: each is itself, but for the first `--`, behind which a word may look like an option. None where one is
-- an option.
abbrev pub operands_of : List Word → Option (List Word)
operands_of [] = Some []
operands_of (word ∷ rest) =
    if bytes_eq word (codes "--") then Some rest
    else (if is_option word then None else option_map (λ more. word ∷ more) (operands_of rest))

-- behind the program's own name, the words are this command and these operands
abbrev pub IsCommand : List Word → Word → List Word → Type 0
IsCommand (program ∷ name ∷ rest) command operands = (name ≡ command) × (operands_of rest ≡ Some operands)
IsCommand words command operands = ⊥

-- a word is this number, in decimal digits behind a sign or none
abbrev pub Writes : Word → ℕ → Type 0
Writes word n = IsNumeral 10 (without_leading_sign word) × (signed_digits_value 10 word ≡ pos n)

-- a word is this number, from the least one to the most
abbrev pub WritesWithin : ℕ → ℕ → Word → ℕ → Type 0
WritesWithin least most word n = Writes word n × (least ≤ n) × (n ≤ most)

-- The words ask for this request. `list` prints 1 to 4,096 instructions, `step` does at most 1,000,000 steps, `new` and `import` make a file of 1 to
-- 65,536 sectors, or of as many as the game needs where no number is given, and `trace` prints 1 to 1,024 steps.
abbrev pub AsksFor : List Word → Request → Type 0
AsksFor words (Info cart) = IsCommand words (codes "info") (cart.now ∷ [])
AsksFor words (Listing cart address count) =
    (number : Word) × IsCommand words (codes "list") (cart.now ∷ address.now ∷ number ∷ []) × WritesWithin 1 4096 number count
AsksFor words (Step cart count) =
    (number : Word) × IsCommand words (codes "step") (cart.now ∷ number ∷ []) × WritesWithin 0 1000000 number count
AsksFor words (New cart save None) = IsCommand words (codes "new") (cart.now ∷ save.now ∷ [])
AsksFor words (New cart save (Some sectors)) =
    (number : Word) × IsCommand words (codes "new") (cart.now ∷ save.now ∷ number ∷ []) × WritesWithin 1 65536 number sectors
AsksFor words (Play cart save script) = IsCommand words (codes "play") (cart.now ∷ save.now ∷ script.now ∷ [])
AsksFor words (Frame cart save out) = IsCommand words (codes "frame") (cart.now ∷ save.now ∷ out.now ∷ [])
AsksFor words (Trace cart save count) =
    (number : Word) × IsCommand words (codes "trace") (cart.now ∷ save.now ∷ number ∷ []) × WritesWithin 1 1024 number count
AsksFor words (Stream cart save) = IsCommand words (codes "stream") (cart.now ∷ save.now ∷ [])
AsksFor words (Test cart frames None) =
    (number : Word) × IsCommand words (codes "test") (cart.now ∷ number ∷ []) × WritesWithin 1 1000000 number frames
AsksFor words (Test cart frames (Some script)) =
    (number : Word) × IsCommand words (codes "test") (cart.now ∷ number ∷ script.now ∷ []) × WritesWithin 1 1000000 number frames
AsksFor words (NewRecording cart recording sectors) =
    (number : Word) × IsCommand words (codes "new-recording") (cart.now ∷ recording.now ∷ number ∷ []) × WritesWithin 1 65536 number sectors
AsksFor words (Record cart save recording) = IsCommand words (codes "record") (cart.now ∷ save.now ∷ recording.now ∷ [])
AsksFor words (Recorded cart recording) = IsCommand words (codes "recorded") (cart.now ∷ recording.now ∷ [])
AsksFor words (Verify cart save recording) = IsCommand words (codes "verify") (cart.now ∷ save.now ∷ recording.now ∷ [])
AsksFor words (Show cart save) = IsCommand words (codes "show") (cart.now ∷ save.now ∷ [])
AsksFor words (Export cart save out) = IsCommand words (codes "export") (cart.now ∷ save.now ∷ out.now ∷ [])
AsksFor words (Import cart battery save None) = IsCommand words (codes "import") (cart.now ∷ battery.now ∷ save.now ∷ [])
AsksFor words (Import cart battery save (Some sectors)) =
    (number : Word) × IsCommand words (codes "import") (cart.now ∷ battery.now ∷ save.now ∷ number ∷ []) × WritesWithin 1 65536 number sectors
AsksFor words (Debug cart None) = IsCommand words (codes "debug") (cart.now ∷ [])
AsksFor words (Debug cart (Some save)) = IsCommand words (codes "debug") (cart.now ∷ save.now ∷ [])

-- the words ask for some request
abbrev pub AskForSome : List Word → Type 0
AskForSome words = (request : Request) × AsksFor words request

-- the request is the one that the words ask for; else they ask for none, or memory was wanted
abbrev pub IsAnswer : List Word → Result (Option Request) Error → Type 0
IsAnswer words (Ok (Some request)) = AsksFor words request
IsAnswer words (Ok None) = ⊥
IsAnswer words (Err error) = AskForSome words → kind_of error ≡ OutOfMemory
