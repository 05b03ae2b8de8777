use Rattle.std.proofs.Common.{◌≡◌, ◌+◌, length, sym, ap, ◌∙◌, subst}
use Rattle.session.specs.Accessors.{pending_of, acknowledged_of, is_broken}
use Rattle.session.specs.Calls.{input_answer}
use Rattle.embedding.specs.States.{IsStateAnswer}
use Rattle.embedding.specs.declared.game.Game.{Game}
use Rattle.c_interface.specs.Codes.{answer_code}
use Rattle.c_interface.proofs.session_exports.gbkeep_raw_session_restore.Goals as goal
use Rattle.c_interface.proofs.session_exports.gbkeep_raw_session_restore.Goals.{in-Ok, in-Err}

pub returns-clause-code : goal.returns-clause-code
returns-clause-code c =
    let old : c.deref_mut.result.now ≡ c.args.session.value = c.deref_mut.ensures.value ∙ c.into_box-game.ensures in
    record {
      answer = c.restore.result;
      given = subst (λ (g : Game). IsStateAnswer g.cartridge c.args.bytes.now (input_answer (is_broken g.session) (length (pending_of g.session)) (acknowledged_of g.session + length (pending_of g.session))) c.restore.result) old c.restore.ensures.answer;
      is = elim c.match-restore.branch [
        | in-Ok w ↦ w.code-is ∙ sym (ap answer_code w.in-Ok.is)
        | in-Err w ↦ w.code-is ∙ w.code-code.ensures.code ∙ sym (ap answer_code w.in-Err.is)
      ];
    }
