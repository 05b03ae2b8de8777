use Rattle.picture_lines.proofs.Winners.{winner-least, winner-none}
use Rattle.picture_lines.proofs.by_definition.winner_is_least.Goals as goal

pub returns-clause-least : goal.returns-clause-least
returns-clause-least c = winner-least

pub returns-clause-some : goal.returns-clause-some
returns-clause-some c = winner-none
