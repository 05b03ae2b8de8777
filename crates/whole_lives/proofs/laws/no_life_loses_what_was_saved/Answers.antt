use Rattle.whole_lives.proofs.LifeLaws.{keeps_what_was_saved}
use Rattle.whole_lives.proofs.laws.no_life_loses_what_was_saved.Goals as goal

pub returns : goal.returns
returns g c = keeps_what_was_saved g.P.Player.asks
