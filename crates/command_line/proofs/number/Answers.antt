use Rattle.std.proofs.Common.{subst, sym}
use Rattle.clap.specs.Words.{found_of, rows_of}
use Rattle.command_line.specs.Commands.{given_at}
use Rattle.command_line.specs.Words.{WritesWithin}
use Rattle.command_line.proofs.Getters.{required_number}
use Rattle.command_line.proofs.number.Goals as goal

pub returns : goal.returns
returns c = λ least most small passes.
    let rows = rows_of (found_of c.args.values.now) in
    subst (WritesWithin least most (given_at c.args.id.now rows)) (sym c.unwrap_or.ensures)
    (required_number c.args.id.now rows least most c.optional_number.result (λ given passing. c.optional_number.ensures.some least most given small passing) passes)
