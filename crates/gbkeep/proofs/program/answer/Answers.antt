use Rattle.std.proofs.Common.{◌≡◌, Ok, sym, subst, ℕ, Result}
use Rattle.gbkeep.specs.Program.{HasEnded}
use Rattle.gbkeep.specs.Program.{Exchange}
use Rattle.gbkeep.specs.declared.words.Asked.{Asked}
use Rattle.gbkeep.specs.declared.words.Asked.TheVariants.{Command}
use Rattle.refusals.specs.declared.refusal.Refusal.{Refusal}
use Rattle.gbkeep.proofs.Endings.{refused_ends}
use Rattle.gbkeep.proofs.program.answer.Goals as goal

pub returns-in-Err-serve : goal.returns-in-Err-serve
returns-in-Err-serve g c =
    let run : Exchange = record {
      input = record { before = g.I.LineInput.remaining c.args.input.now; since = g.I.LineInput.remaining c.serve.new.input };
      output = record { before = g.O.Output.contents c.args.out.now; since = g.O.Output.contents c.serve.new.out };
      errors = record { before = g.E.Output.contents c.args.err.now; since = g.E.Output.contents c.report.new.err };
      input_failed = g.I.LineInput.has_failed c.serve.new.input;
      output_failed = g.O.Output.has_failed c.serve.new.out;
    } in
    let same : c.args.asked ≡ Ok (Command c.in-Ok-Command.request) = cc in
    subst (λ (asked : Result Asked Refusal). HasEnded asked run c.report.result) (sym same)
    (subst (λ (status : ℕ). HasEnded (Ok (Command c.in-Ok-Command.request)) run status) (sym c.report.ensures.status)
    (refused_ends c.in-Ok-Command.request c.in-Err-serve.fault run c.in-Err-serve.ensures.served (c.report.ensures.line, (c.in-Err-serve.ensures.output, c.in-Err-serve.ensures.input))))
