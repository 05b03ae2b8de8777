use Rattle.cartridge_clock.proofs.lives.no_second_of_a_save_is_lost.Goals as goal
use Rattle.cartridge_clock.proofs.Exact.{no_second_lost}

pub returns : goal.returns
returns c = no_second_lost
