use Rattle.std.proofs.Common.{◌∙◌}
use Rattle.session.specs.Accessors.{machine_of}
use Rattle.session.proofs.StandsLaws.{after_none}
use Rattle.recorded_play.proofs.Stepping.{told_output}
use Rattle.recorded_play.proofs.recorded_game.RecordedGamePlayable.save.Goals as goal

pub returns-in-Ok-clause-machine : goal.returns-in-Ok-clause-machine
returns-in-Ok-clause-machine g c = c.in-Ok.ensures.comes.machine_is ∙ after_none (machine_of c.args.self.now.session)

pub returns-in-Err-clause-not_told : goal.returns-in-Err-clause-not_told
returns-in-Err-clause-not_told g c = λ is. c.in-Err.ensures.no_output (told_output c.in-Err.why is)
