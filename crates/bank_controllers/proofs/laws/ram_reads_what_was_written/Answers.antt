use Rattle.bank_controllers.proofs.BankLaws.{reads_what_was_written}
use Rattle.bank_controllers.proofs.laws.ram_reads_what_was_written.Goals as goal

pub returns : goal.returns
returns c = reads_what_was_written
