use Rattle.std.proofs.Common.{◌∙◌, ap, sym}
use Rattle.debugging.specs.Quiet.{has_pc}
use Rattle.debugging.proofs.Runs.{at_none}
use Rattle.debugging.proofs.run.Run.run_to_address.Goals as goal

pub run_to_watched-requires-clause-watch : goal.run_to_watched-requires-clause-watch
run_to_watched-requires-clause-watch c = λ p elsewhere.
    c.requires.same p ∙ ap (λ addresses. has_pc addresses p) (sym c.of-breaks.ensures) ∙ at_none c.of-breaks.result p elsewhere
