use Rattle.gbkeep.proofs.Together.{stand_together}
use Rattle.gbkeep.proofs.laws.new_files_stand_together.Goals as goal

pub returns : goal.returns
returns g c = λ rom game tape. stand_together rom _ _ game tape
