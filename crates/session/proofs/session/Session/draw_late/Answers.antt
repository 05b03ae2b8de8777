use Rattle.session.proofs.SameSession.{same_session}
use Rattle.session.proofs.session.Session.draw_late.Goals as goal

pub returns : goal.returns
returns g c = same_session c.args.self.now c.draw_late.new.self c.draw_late.ensures _
