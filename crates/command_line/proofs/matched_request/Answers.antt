use Rattle.std.proofs.Common.{◌≡◌, ◌∙◌, List, Option, None, Some, refl, subst₂, ap}
use Rattle.std.specs.Prelude.{Box, option_map}
use Rattle.std.specs.Box.{box_value}
use Rattle.clap.specs.Walk.{Row}
use Rattle.clap.specs.Words.{found_of, rows_of, subcommand_rows}
use Rattle.clap.specs.declared.parser.matches.ArgMatches.TheViews.{out-ArgMatches, out-SubCommand}
use Rattle.clap.specs.declared.parser.matches.SubCommand.{SubCommand}
use Rattle.command_line.specs.Commands.{AnswersAs}
use Rattle.command_line.specs.Words.{Word}
use Rattle.command_line.proofs.matched_request.Goals as goal

-- the name beside the rows is the subcommand's
name_beside : {Z : Type 0} (o : Option (Box SubCommand Z)) → option_map (λ b. (out-SubCommand (box_value b)).name.now) o ≡ option_map (λ p. p.0) (subcommand_rows o)
name_beside None = refl
name_beside (Some b) = refl

pub returns-in-Some : goal.returns-in-Some
returns-in-Some c = λ words read.
    let rows = rows_of (found_of c.in-Some.values.now) in
    let named : Some c.in-Some.name.now ≡ Some read.0 = c.in-Some.ensures.name ∙ name_beside (out-ArgMatches c.args.matches.now).subcommand ∙ ap (option_map (λ p. p.0)) read.2 in
    let held : Some rows ≡ Some read.1 = c.in-Some.ensures.rows ∙ ap (option_map (λ p. p.1)) read.2 in
    let name : c.in-Some.name.now ≡ read.0 = cc in
    let same : rows ≡ read.1 = cc in
    subst₂ (λ (n : Word) (r : List Row). AnswersAs n r c.named_request.result) name same c.named_request.ensures words read.3 read.4
