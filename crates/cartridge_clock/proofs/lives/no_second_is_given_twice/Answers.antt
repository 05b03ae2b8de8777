use Rattle.cartridge_clock.proofs.lives.no_second_is_given_twice.Goals as goal
use Rattle.cartridge_clock.proofs.Fair.{no_second_twice}

pub returns : goal.returns
returns c = no_second_twice
