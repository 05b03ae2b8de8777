use Rattle.cartridge_clock.proofs.lives.a_cut_loses_what_passed_since_the_save.Goals as goal
use Rattle.cartridge_clock.proofs.Behind.{fair_behind}

pub returns : goal.returns
returns c = fair_behind
