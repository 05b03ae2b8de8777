use Rattle.std.proofs.Common.{◌≡◌, ℕ, ◌∙◌, sym, subst}
use Rattle.playing.proofs.Making.{makes_nothing}
use Rattle.streaming.specs.Answers.{last_deeds}
use Rattle.streaming.specs.Obeying.{AdvancesByDeeds}
use Rattle.streaming.proofs.obeying.save_rest.Goals as goal

pub returns-then-counts-eq0-clause-obeyed : goal.returns-then-counts-eq0-clause-obeyed
returns-then-counts-eq0-clause-obeyed g c =
    let here = c.args.game.now in
    let out = g.W.Output.contents c.args.out.now in
    let none : g.G.Playable.unsaved here ≡ 0 = sym c.counts.ensures.pending ∙ c.if-counts-eq0.true in
    subst (λ (n : ℕ). AdvancesByDeeds g.G.Playable here here out out (last_deeds n)) (sym none) (makes_nothing g.G.Playable here out)
