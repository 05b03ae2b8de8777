-- The commands as `clap` has them: what its contracts read of a command that is built. Of what `request_of` says, only the kind of an error
-- is stated through it; `Words.antt` says which words ask for what.
use Rattle.std.specs.Prelude.{◌≡◌, ℕ, Bool, List, [], ◌∷◌, Option, Some, None, Ok, pos, codes, true, false, if◌then◌else◌, find, fold, map}
use Rattle.std.specs.Prelude.{MatchOption, unwrap_or}
use Rattle.std.specs.List.{AllByRecursion}
use Rattle.std.specs.Option.{option_map_or}
use Rattle.std.specs.Str.{bytes_eq}
use Rattle.clap.specs.Facts.{parser_of_value}
use Rattle.clap.specs.Simple.{new_shape}
use Rattle.clap.specs.Words.{Accepts, App, Row, Rule, Shape, Text, app_of, first_of, new_app, new_rule, one_of, rule_of, with_subcommand}
use Rattle.clap.specs.Words.{read_as, reading_of}
use Rattle.clap.specs.declared.builder.arg.Arg.{Arg}
use Rattle.clap.specs.declared.builder.command.Command.{Command}
use Rattle.clap.specs.declared.builder.command.Command.TheViews.{out-Command}
use Rattle.clap.specs.declared.builder.value_parser.ValueParser.{ValueParser}
use Rattle.clap.specs.declared.builder.value_parser.ValueParser.TheVariants.{Signed}
use Rattle.command_line.specs.Words.{IsAnswer, IsCommand, Word}
use Rattle.command_line.specs.declared.Request.{Request}
use Rattle.command_line.specs.declared.words.Operand.{Operand as Declared}
use Rattle.command_line.specs.declared.words.Operand.TheVariants as declared
use Rattle.command_line.specs.declared.words.Subcommand.{Subcommand}

-- a word behind a command: any, or one that a parser lets through
pub record Operand : Type 0 where
  pub id : Text
  pub is_required : Bool
  pub parser : Option ValueParser

abbrev pub word : Text → Operand
word id = record { id = id; is_required = true; parser = None }

-- a decimal number in a range
abbrev pub number : Text → ℕ → ℕ → Operand
number id least most = record (word id) { parser = Some (Signed (pos least) (pos most)) }

-- the last operand, where it may be left out
abbrev pub optional : Operand → Operand
optional operand = record operand { is_required = false }

abbrev pub cart_operand : Operand
cart_operand = word (codes "CART")

abbrev pub save_operand : Operand
save_operand = word (codes "SAVE")

-- a command: its name, and what stands behind it
pub record Usage : Type 0 where
  pub name : Text
  pub operands : List Operand

abbrev pub usage : Text → List Operand → Usage
usage name operands = record { name = name; operands = operands }

abbrev pub commands : List Usage
commands = usage (codes "info") (cart_operand ∷ [])
    ∷ usage (codes "list") (cart_operand ∷ word (codes "ADDR") ∷ number (codes "COUNT") 1 4096 ∷ [])
    ∷ usage (codes "step") (cart_operand ∷ number (codes "COUNT") 0 1000000 ∷ [])
    ∷ usage (codes "new") (cart_operand ∷ save_operand ∷ optional (number (codes "SECTORS") 1 65536) ∷ [])
    ∷ usage (codes "play") (cart_operand ∷ save_operand ∷ word (codes "SCRIPT") ∷ [])
    ∷ usage (codes "frame") (cart_operand ∷ save_operand ∷ word (codes "OUT") ∷ [])
    ∷ usage (codes "trace") (cart_operand ∷ save_operand ∷ number (codes "COUNT") 1 1024 ∷ [])
    ∷ usage (codes "stream") (cart_operand ∷ save_operand ∷ [])
    ∷ usage (codes "new-recording") (cart_operand ∷ word (codes "RECORDING") ∷ number (codes "SECTORS") 1 65536 ∷ [])
    ∷ usage (codes "record") (cart_operand ∷ save_operand ∷ word (codes "RECORDING") ∷ [])
    ∷ usage (codes "recorded") (cart_operand ∷ word (codes "RECORDING") ∷ [])
    ∷ usage (codes "verify") (cart_operand ∷ save_operand ∷ word (codes "RECORDING") ∷ [])
    ∷ usage (codes "show") (cart_operand ∷ save_operand ∷ [])
    ∷ usage (codes "export") (cart_operand ∷ save_operand ∷ word (codes "OUT") ∷ [])
    ∷ usage (codes "import") (cart_operand ∷ word (codes "BATTERY") ∷ save_operand ∷ optional (number (codes "SECTORS") 1 65536) ∷ [])
    ∷ usage (codes "test") (cart_operand ∷ number (codes "FRAMES") 1 1000000 ∷ optional (word (codes "SCRIPT")) ∷ [])
    ∷ usage (codes "debug") (cart_operand ∷ optional save_operand ∷ [])
    ∷ []

abbrev pub rule_of_operand : Operand → Rule
rule_of_operand operand = record (new_rule operand.id) { required = operand.is_required; parser = operand.parser }

abbrev pub shape_of_usage : Usage → Shape
shape_of_usage u = record (new_shape u.name) { rules = map rule_of_operand u.operands }

-- the program without its commands
abbrev pub bare : App
bare = let named = new_app (codes "gbkeep") in record named { top = record named.top { has_version = true; subcommand_required = true } }

abbrev pub with_commands : List Usage → App
with_commands us = fold with_subcommand bare (map shape_of_usage us)

-- the whole program's
abbrev pub gbkeep : App
gbkeep = with_commands commands

-- a command that `clap` reads so, none of whose operands is global
pub record Reads (app : App) (command : Command) : Type 0 where
  pub shape : app_of command ≡ app
  pub local : (out-Command command).has_globals ≡ false

-- an operand that `clap` reads so
pub record ReadsOperand (operand : Operand) (arg : Arg) : Type 0 where
  pub rule_is : rule_of arg ≡ rule_of_operand operand
  pub local : arg.global ≡ false

-- what the code declares, without its texts
abbrev pub operand_of : Declared → Operand
operand_of (declared.Word id help) = word id.now
operand_of (declared.OptionalWord id help) = optional (word id.now)
operand_of (declared.Number id least most help) = record (word id.now) { parser = Some (Signed least most) }
operand_of (declared.OptionalNumber id least most help) = optional (record (word id.now) { parser = Some (Signed least most) })

abbrev pub usage_of : Subcommand → Usage
usage_of c = usage c.name.now (map operand_of c.operands.now)

-- ---- what the matches of a command hold

-- the value of an operand that is there
abbrev pub given_at : Word → List Row → Word
given_at id rows = unwrap_or (first_of id rows) []

-- a typed getter reads the operand as its parser says, which lets it through
abbrev pub PassesAs : Operand → List Row → Word → Type 0
PassesAs o rows given =
    (one_of o.id rows ≡ Some (read_as (reading_of (parser_of_value o.parser)) given)) × Accepts false (parser_of_value o.parser) given

-- an operand is there and passes, or may be left out
abbrev pub Passes : List Row → Operand → Type 0
Passes rows o = MatchOption (first_of o.id rows) (o.is_required ≡ false) (PassesAs o rows)

-- the words for these operands
abbrev pub words_in : List Row → List Operand → List Word
words_in rows [] = []
words_in rows (o ∷ os) =
    if o.is_required then given_at o.id rows ∷ words_in rows os
    else option_map_or (λ given. given ∷ words_in rows os) (first_of o.id rows) []

abbrev pub is_named : Word → Usage → Bool
is_named name u = bytes_eq u.name name

-- the operands of this command that its matches hold
abbrev pub words_of : Word → List Row → List Word
words_of name rows = option_map_or (λ u. words_in rows u.operands) (find (is_named name) commands) []

-- this is a command, and each of its operands passes
abbrev pub IsMatched : Word → List Row → Type 0
IsMatched name rows = MatchOption (find (is_named name) commands) ⊥ (λ u. AllByRecursion (Passes rows) u.operands)

-- the words are a command with the operands that the matches of a subcommand hold
abbrev pub IsRead : List Word → Option (Word × List Row) → Type 0
IsRead words subcommand =
    (name : Word) × (rows : List Row) × (subcommand ≡ Some (name, rows)) × IsCommand words name (words_of name rows) × IsMatched name rows

-- what is made of the matches of a command answers its words
abbrev pub AnswersAs : Word → List Row → Option Request → Type 0
AnswersAs name rows made = (words : List Word) → IsCommand words name (words_of name rows) → IsMatched name rows → IsAnswer words (Ok made)
