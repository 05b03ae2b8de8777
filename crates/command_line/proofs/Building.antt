-- How a command reads that is built argument by argument.
use Rattle.std.proofs.Common.{◌≡◌, ◌∙◌, ◌||◌, ◌<◌, ◌+◌, ◌++◌, ℕ, ap, ap₂, Bool, List, [], ◌∷◌, fold, get_or, length, map, take}
use Rattle.std.proofs.lemmas.List.{map-append, take_more}
use Rattle.std.proofs.lemmas.List.Sums.{fold-append}
use Rattle.clap.specs.Words.{AddsArg, AddsSubcommand, App, with_rule, with_subcommand}
use Rattle.clap.specs.declared.builder.arg.Arg.{Arg}
use Rattle.clap.specs.declared.builder.command.Command.{Command}
use Rattle.command_line.specs.Commands.{Operand, Reads, ReadsOperand, bare, rule_of_operand, shape_of_usage, usage_of, with_commands}
use Rattle.command_line.specs.declared.words.Subcommand.{Subcommand}

pub argument_added : (app : App) (operand : Operand) (old new : Command) (arg : Arg) → Reads app old → ReadsOperand operand arg → AddsArg old arg new
    → Reads (with_rule app (rule_of_operand operand)) new
argument_added app operand old new arg before reads adds = record {
  shape = adds.shape reads.local ∙ ap₂ with_rule before.shape reads.rule_is;
  local = adds.globals ∙ ap₂ (λ (a b : Bool). a || b) before.local reads.local;
}

pub command_added : (app sub : App) (old new added : Command) → Reads app old → Reads sub added → AddsSubcommand old added new → Reads (with_subcommand app sub.top) new
command_added app sub old new added before inner adds = record {
  shape = adds.shape inner.local ∙ ap₂ with_subcommand before.shape (ap (λ (a : App). a.top) inner.shape);
  local = adds.globals ∙ ap₂ (λ (a b : Bool). a || b) before.local inner.local;
}

pub one_more : {A B C : Type 0} (f : B → C) (g : A → B) (xs : List A) (i : ℕ) (d : A) → i < length xs
    → map f (map g (take (i + 1) xs)) ≡ map f (map g (take i xs)) ++ f (g (get_or xs i d)) ∷ []
one_more f g xs i d below =
    ap (λ ys. map f (map g ys)) (take_more xs i d below) ∙ ap (map f) (map-append g (take i xs) (get_or xs i d ∷ [])) ∙ map-append f (map g (take i xs)) (g (get_or xs i d) ∷ [])

pub one_command : (rows : List Subcommand) (i : ℕ) (d : Subcommand) → i < length rows
    → with_commands (map usage_of (take (i + 1) rows)) ≡ with_subcommand (with_commands (map usage_of (take i rows))) (shape_of_usage (usage_of (get_or rows i d)))
one_command rows i d below =
    ap (fold with_subcommand bare) (one_more shape_of_usage usage_of rows i d below)
    ∙ fold-append with_subcommand bare (map shape_of_usage (map usage_of (take i rows))) (shape_of_usage (usage_of (get_or rows i d)) ∷ [])
