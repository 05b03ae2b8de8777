use Rattle.std.proofs.Common.{◌≡◌, [], map, refl, subst, sym}
use Rattle.clap.specs.Words.{App, HasKind, HasMatchesOf, fault_of}
use Rattle.command_line.specs.Commands.{IsRead}
use Rattle.command_line.proofs.AllWords.{at_gbkeep, error_answers, understood}
use Rattle.command_line.proofs.request_of.Goals as goal

pub returns-in_err-matches : goal.returns-in_err-matches
returns-in_err-matches g c =
    let words = map g.S.AsStr.text c.args.words.now in
    let error = c.in_err-matches.field-0.0 in
    let kind = at_gbkeep (λ (a : App). HasKind (fault_of a words) error) _ c.in_ok-command.ensures.shape c.in_err-matches.ensures.kinds in
    let answer = error_answers words error _ kind c.from_residual-in_err-matches.ensures.1 in
    record { asked = answer.0; kinds = answer.1 }

pub returns : goal.returns
returns g c =
    let words = map g.S.AsStr.text c.args.words.now in
    let none = at_gbkeep (λ (a : App). fault_of a words ≡ []) _ c.in_ok-command.ensures.shape c.in_ok-matches.ensures.kinds in
    let matches = subst (λ (a : App). HasMatchesOf a words c.in_ok-matches.matches) c.in_ok-command.ensures.shape c.in_ok-matches.ensures.matches refl in
    record {
      asked = c.matched_request.ensures words (subst (IsRead words) (sym matches.1) (understood words none));
      kinds = none;
    }
