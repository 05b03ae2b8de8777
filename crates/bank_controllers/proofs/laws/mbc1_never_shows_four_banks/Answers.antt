use Rattle.bank_controllers.proofs.BankLaws.{never_shows_four}
use Rattle.bank_controllers.proofs.laws.mbc1_never_shows_four_banks.Goals as goal

pub returns : goal.returns
returns c = never_shows_four
