use Rattle.session.proofs.Beginnings.{if_ok}
use Rattle.session.specs.Accessors.{device_of}
use Rattle.embedding.specs.HostDevices.{host_disk}
use Rattle.embedding.proofs.Counting.{handed_same, kept_inputs, save_refused}
use Rattle.embedding.proofs.game.Game.save.Goals as goal

pub returns-clause-handed : goal.returns-clause-handed
returns-clause-handed c =
    let answered = c.save.ensures.answered in
    handed_same (device_of c.args.self.now.session) (device_of c.save.new.self) answered.follows answered.handed

pub returns-clause-all : goal.returns-clause-all
returns-clause-all c = if_ok c.save.result c.save.ensures.ok (λ all is. (is.0, is.1, is.2))

pub returns-clause-cause : goal.returns-clause-cause
returns-clause-cause c =
    save_refused _ c.save.result (host_disk (device_of c.args.self.now.session)).faults (host_disk (device_of c.save.new.self)).faults c.save.ensures.cause c.save.ensures.answered.faults

pub returns-clause-rests : goal.returns-clause-rests
returns-clause-rests c = if_ok c.save.result c.save.ensures.rests (λ all is. is tt)

pub returns-clause-inputs : goal.returns-clause-inputs
returns-clause-inputs c = kept_inputs c.save.result _ _ _ _ _ _ c.save.ensures.ok c.save.ensures.refused

pub returns-clause-images : goal.returns-clause-images
returns-clause-images c = λ whole. c.save.ensures.images whole tt

pub returns-clause-stood : goal.returns-clause-stood
returns-clause-stood c = λ whole few. c.save.ensures.stood whole few tt

pub returns-clause-stands : goal.returns-clause-stands
returns-clause-stands c = λ whole. c.save.ensures.stands whole tt

pub returns-clause-position : goal.returns-clause-position
returns-clause-position c = c.save.ensures.position

pub returns-clause-kept : goal.returns-clause-kept
returns-clause-kept c = c.save.ensures.kept

pub returns-clause-whole : goal.returns-clause-whole
returns-clause-whole c = if_ok c.save.result c.save.ensures.ok (λ all is. is.4)

pub returns-clause-unchanged : goal.returns-clause-unchanged
returns-clause-unchanged c = c.save.ensures.unchanged
