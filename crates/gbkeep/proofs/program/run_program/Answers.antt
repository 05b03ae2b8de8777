use Rattle.std.proofs.Common.{[], Err, inl, inr, subst}
use Rattle.gbkeep.specs.Program.{HasEnded}
use Rattle.refusals.specs.declared.refusal.Refusal.{Refusal}
use Rattle.refusals.specs.declared.refusal.Refusal.TheVariants.{Memory}
use Rattle.gbkeep.proofs.program.run_program.Goals as goal

-- where memory was wanted for the words, they may have been any
pub returns-in-Err-clause-ends : goal.returns-in-Err-clause-ends
returns-in-Err-clause-ends g c =
    let Ended = λ (fault : Refusal). HasEnded (Err fault)
    (record {
      input = record { before = g.I.LineInput.remaining c.args.input.now; since = g.I.LineInput.remaining c.answer.new.input };
      output = record { before = g.O.Output.contents c.args.out.now; since = g.O.Output.contents c.answer.new.out };
      errors = record { before = g.E.Output.contents c.args.err.now; since = g.E.Output.contents c.answer.new.err };
      input_failed = g.I.LineInput.has_failed c.answer.new.input;
      output_failed = g.O.Output.has_failed c.answer.new.out;
    })
    c.answer.result in
    elim c.in-Err.ensures [
      | inl memory ↦ inl ([], (Err Memory, tt, subst Ended memory c.answer.ensures))
      | inr word ↦ inr (subst Ended word c.answer.ensures)
    ]
