use Rattle.session.proofs.AtRest.{device_rests}
use Rattle.session.proofs.session.Session.device.Goals as goal

pub returns-clause-rests : goal.returns-clause-rests
returns-clause-rests g c = device_rests c.args.self.now

pub returns-clause-stands : goal.returns-clause-stands
returns-clause-stands g c = λ whole honest. (c.args.self.now.rests whole honest).stood
