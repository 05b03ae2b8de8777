use Rattle.sm83_processor.proofs.Lowest.{lowest_is_lowest}
use Rattle.sm83_processor.proofs.laws.dispatch_takes_the_lowest_bit.Goals as goal

pub returns : goal.returns
returns c = lowest_is_lowest
